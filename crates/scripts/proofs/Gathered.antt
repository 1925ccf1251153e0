-- Loops over the values of an array and the keys of a table.
use Rattle.std.proofs.Common.{◌≡◌, ℕ, ◌+◌, ◌<◌, List, [], ◌∷◌, ◌++◌, length, drop, Bool, true, false, Option, Some, None, option_map, String, Global, string_bytes, get_or, refl, sym, ap, ◌∙◌, cond}
use Rattle.std.proofs.lemmas.List.{append-nil, append_assoc}
use Rattle.toml.specs.Data.{Items, item, Members}
use Rattle.toml.specs.View.{view, items_view, members_view}
use Rattle.toml.specs.declared.value.Value.{Value}
use Rattle.toml.proofs.Views.{items_view-drop}
use Rattle.scripts.specs.Said.{both, component_in, principals_of, is_key, unknown_key, is_limit, are_limits}

abbrev pub Principals : Type 0
Principals = List (List ℕ)

-- the principals so far, and those that are left
abbrev pub together : Principals → Option Principals → Option Principals
together front None = None
together front (Some left) = Some (front ++ left)

pub gather_start : (left : Option Principals) → together [] left ≡ left
gather_start None = refl
gather_start (Some left) = refl

both_together : (front : Principals) (p : List ℕ) (left : Option Principals) → together front (both (Some p) left) ≡ together (front ++ p ∷ []) left
both_together front p None = refl
both_together front p (Some left) = ap Some (sym (append_assoc front (p ∷ []) left))

none_together : (front : Principals) (left : Option Principals) → together front (both None left) ≡ None
none_together front None = refl
none_together front (Some left) = refl

pub gather_done : (front : Principals) → together front (Some []) ≡ Some front
gather_done front = ap Some (append-nil front)

module _ (vs : List Value) (i : ℕ) (v : Value) (low : i < length vs) (is : v ≡ get_or vs i v) where
  at_value : principals_of (items_view (drop i vs)) ≡ both (component_in (view v)) (principals_of (items_view (drop (i + 1) vs)))
  at_value = ap principals_of (items_view-drop vs i v low) ∙ ap (λ x. both (component_in (view x)) (principals_of (items_view (drop (i + 1) vs)))) (sym is)

  pub gather_more : (front : Principals) (p : List ℕ) (whole : Option Principals) → component_in (view v) ≡ Some p → together front (principals_of (items_view (drop i vs))) ≡ whole
      → together (front ++ p ∷ []) (principals_of (items_view (drop (i + 1) vs))) ≡ whole
  gather_more front p whole said h =
      sym (both_together front p (principals_of (items_view (drop (i + 1) vs))))
      ∙ ap (λ o. together front (both o (principals_of (items_view (drop (i + 1) vs))))) (sym said) ∙ ap (together front) (sym at_value) ∙ h

  pub gather_stop : (front : Principals) (whole : Option Principals) → component_in (view v) ≡ None → together front (principals_of (items_view (drop i vs))) ≡ whole → None ≡ whole
  gather_stop front whole said h =
      sym (none_together front (principals_of (items_view (drop (i + 1) vs))))
      ∙ ap (λ o. together front (both o (principals_of (items_view (drop (i + 1) vs))))) (sym said) ∙ ap (together front) (sym at_value) ∙ h

-- ---- the keys

abbrev pub Entry : Type 0
Entry = String Global × Value

pub key_left : (all left next : List Entry) (key : String Global) (value : Value) → unknown_key (members_view left) ≡ unknown_key (members_view all) → left ≡ (key, value) ∷ next → is_key (string_bytes key) ≡ true
    → unknown_key (members_view next) ≡ unknown_key (members_view all)
key_left all left next key value h l e =
    let whole : cond (is_key (string_bytes key)) (unknown_key (members_view next)) (Some (string_bytes key)) ≡ unknown_key (members_view all) = ap (λ es. unknown_key (members_view es)) (sym l) ∙ h in
    ap (λ b. cond b (unknown_key (members_view next)) (Some (string_bytes key))) (sym e) ∙ whole

pub key_stop : (all left next : List Entry) (key : String Global) (value : Value) → unknown_key (members_view left) ≡ unknown_key (members_view all) → left ≡ (key, value) ∷ next → is_key (string_bytes key) ≡ false
    → Some (string_bytes key) ≡ unknown_key (members_view all)
key_stop all left next key value h l e =
    let whole : cond (is_key (string_bytes key)) (unknown_key (members_view next)) (Some (string_bytes key)) ≡ unknown_key (members_view all) = ap (λ es. unknown_key (members_view es)) (sym l) ∙ h in
    ap (λ b. cond b (unknown_key (members_view next)) (Some (string_bytes key))) (sym e) ∙ whole

-- ---- the keys of the limits

pub limit_left : (all left next : List Entry) (key : String Global) (value : Value) → are_limits (members_view left) ≡ are_limits (members_view all) → left ≡ (key, value) ∷ next → is_limit (string_bytes key) ≡ true
    → are_limits (members_view next) ≡ are_limits (members_view all)
limit_left all left next key value h l e =
    let whole : cond (is_limit (string_bytes key)) (are_limits (members_view next)) false ≡ are_limits (members_view all) = ap (λ es. are_limits (members_view es)) (sym l) ∙ h in
    ap (λ b. cond b (are_limits (members_view next)) false) (sym e) ∙ whole

pub limit_stop : (all left next : List Entry) (key : String Global) (value : Value) → are_limits (members_view left) ≡ are_limits (members_view all) → left ≡ (key, value) ∷ next → is_limit (string_bytes key) ≡ false
    → false ≡ are_limits (members_view all)
limit_stop all left next key value h l e =
    let whole : cond (is_limit (string_bytes key)) (are_limits (members_view next)) false ≡ are_limits (members_view all) = ap (λ es. are_limits (members_view es)) (sym l) ∙ h in
    ap (λ b. cond b (are_limits (members_view next)) false) (sym e) ∙ whole
