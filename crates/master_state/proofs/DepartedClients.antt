-- The last of the clients that have departed.
use Rattle.std.proofs.Common.{◌≡◌, ℕ, ◌+◌, ◌-◌, List, [], ◌∷◌, ◌++◌, length, ap, ◌∙◌, arith}
use Rattle.std.specs.Prelude.{take}
use Rattle.std.proofs.lemmas.List.{length-append, take_at}

one_less : (clients : List ℕ) (client : ℕ) → length clients ≡ length (clients ++ client ∷ []) - 1
one_less clients client = omega (arith, length-append clients (client ∷ []))

-- what was noted behind the others is taken back
pub last_back : (clients more : List ℕ) (client : ℕ) → more ≡ clients ++ client ∷ [] → take (length more - 1) more ≡ clients
last_back clients more client is =
    ap (λ xs. take (length xs - 1) xs) is ∙ take_at clients (client ∷ []) (length (clients ++ client ∷ []) - 1) (one_less clients client)
