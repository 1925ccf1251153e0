-- To each client, and of each name, what a crash leaves where a commit was refused before.
use Rattle.std.proofs.Common.{◌≡◌, ◌-◌, ◌<◌, ◌≤◌, true, false, [], ◌∷◌, inl, inr, refl, sym, ◌∙◌, subst}
use Rattle.std.specs.Prelude.{◌⊎◌}
use Rattle.coherence.specs.Slice as one
use Rattle.coherence.specs.Slice.{Slice, GoDown, Apply, Expire, Leave, Retire, Admit, Reached, Live, Never, Ended, nobody}
use Rattle.coherence.proofs.Reached.{reached_led}

never_lives : (session : one.Session) → session ≡ Never → session ≡ Live → ⊥
never_lives session never live = let both : Never ≡ Live = sym never ∙ live in cc

module _ {V : Type 0} where
  -- what the name may show then: what it shows, or anything where a change of it waits and the client holds no right
  abbrev pub MayShow : Slice V → V → Type 0
  MayShow slice present = (present ≡ slice.present) ⊎ ((0 < slice.master.pending) × (slice.master.held ≡ false))

  -- the session is live, and may end
  abbrev pub MayEnd : Slice V → Type 0
  MayEnd slice = (slice.master.timeout ≤ slice.master.now) ⊎ (slice.client.off ≡ true)

  -- what the rows may say of the client's session then
  abbrev pub MayStand : Slice V → one.Session → Type 0
  MayStand slice session = (session ≡ slice.session) ⊎ (((session ≡ Ended) × (slice.session ≡ Live) × MayEnd slice) ⊎ (((session ≡ Live) × (slice.session ≡ Never)) ⊎ ((session ≡ Ended) × (slice.session ≡ Never))))

  abbrev pub fallen : Slice V → V → one.Session → Slice V
  fallen slice present session = record slice { present = present; session = session; master = nobody }

  ends_so : (slice : Slice V) → slice.master.up ≡ true → slice.session ≡ Live → MayEnd slice → Reached slice → Reached (fallen slice slice.present Ended)
  ends_so slice up live (inl over) reached = reached_led slice (fallen slice slice.present Ended) (Expire ∷ GoDown ∷ []) reached (record {
    allowed = record { first = record { up = up; live = live; over = over }; rest = record { first = up; rest = tt } };
    leads_there = refl;
  })
  ends_so slice up live (inr off) reached = reached_led slice (fallen slice slice.present Ended) (Leave ∷ GoDown ∷ []) reached (record {
    allowed = record { first = record { up = up; live = live; off = off }; rest = record { first = up; rest = tt } };
    leads_there = refl;
  })

  stands_so : (slice : Slice V) (session : one.Session) → slice.master.up ≡ true → MayStand slice session → Reached slice → Reached (fallen slice slice.present session)
  stands_so slice session up (inl same) reached =
      subst (λ (z : one.Session). Reached (fallen slice slice.present z)) (sym same)
      (reached_led slice (fallen slice slice.present slice.session) (GoDown ∷ []) reached (record { allowed = record { first = up; rest = tt }; leads_there = refl }))
  stands_so slice session up (inr (inl e)) reached = subst (λ (z : one.Session). Reached (fallen slice slice.present z)) (sym e.0) (ends_so slice up e.1 e.2 reached)
  stands_so slice session up (inr (inr (inr late))) reached =
      subst (λ (z : one.Session). Reached (fallen slice slice.present z)) (sym late.0)
      (reached_led slice (fallen slice slice.present Ended) (Retire ∷ GoDown ∷ []) reached (record { allowed = record { first = record { up = up; over = never_lives slice.session late.1 }; rest = record { first = up; rest = tt } }; leads_there = refl }))
  stands_so slice session up (inr (inr (inl b))) reached =
      subst (λ (z : one.Session). Reached (fallen slice slice.present z)) (sym b.0)
      (reached_led slice (fallen slice slice.present Live) (Admit ∷ GoDown ∷ []) reached (record { allowed = record { first = record { up = up; new = b.1 }; rest = record { first = up; rest = tt } }; leads_there = refl }))

  pub fallen_reached : (slice : Slice V) (present : V) (session : one.Session) → slice.master.up ≡ true → MayShow slice present → MayStand slice session → Reached slice → Reached (fallen slice present session)
  fallen_reached slice present session up (inl same) stand reached = subst (λ (z : V). Reached (fallen slice z session)) (sym same) (stands_so slice session up stand reached)
  fallen_reached slice present session up (inr free) stand reached =
      let mid : Slice V = record slice { present = present; master = record slice.master { pending = slice.master.pending - 1 } } in
      stands_so mid session up stand
      (reached_led slice mid (Apply present ∷ []) reached (record { allowed = record { first = record { up = up; pending = free.0; free = free.1 }; rest = tt }; leads_there = refl }))
