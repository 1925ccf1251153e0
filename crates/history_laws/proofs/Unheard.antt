-- Messages of which nobody hears change nothing.
use Rattle.std.proofs.Common.{◌≡◌, ℕ, ◌+◌, ◌-◌, ◌≤◌, List, [], ◌∷◌, ◌++◌, Bool, true, false, cond, map, length, Option, Some, None, refl, sym, ap, ◌∙◌, subst, arith, append-nil, append_assoc, zero, suc}
use Rattle.std.specs.Prelude.{◌==◌, nat_le}
use Rattle.std.specs.Option.{option_map_or}
use Rattle.std.specs.List.{slice_get}
use Rattle.std.proofs.lemmas.Bool.Decides.{nat_tests}
use Rattle.node_core.specs.declared.lines.Line.{Line}
use Rattle.client_core.specs.declared.parts.asks.Ask.{Ask}
use Rattle.client_core.specs.State.{new_client}
use Rattle.rows_cell.specs.Rows.{changed_rows}
use Rattle.over_core.specs.Sweep.{sweep_edits}
use Rattle.over_core.specs.Up.{up_edits}
use Rattle.tags_cell.specs.Messages.{out_client}
use Rattle.world_steps.specs.declared.mail.Message.{Message}
use Rattle.world_steps.specs.declared.mail.Message.TheVariants.{ToClient}
use Rattle.world_steps.specs.Messages.{message_at, as_request, as_out, request_at, out_at}
use Rattle.history_laws.specs.Parts.{Parts, Deed, ComesUp, FallsComingUp, Takes, Sweeps, FallsSweeping, AnswersBeat, Goes, Begins, Asks, Beats, Hears, with_client, sent_by, sent_as, ComesUpBy, FallsComingUpBy, TakesBy, SweepsBy, FallsSweepingBy, AnswersBeatBy, GoesBy, BeginsBy, AsksBy, BeatsBy, HearsBy}
use Rattle.history_laws.specs.Histories.{Clocks, Entry, Does, History}
use Rattle.history_laws.specs.Lost.{place_beside, deed_beside, entry_beside, UnheardAreAsUntold}

-- ---- where a message stands

get_front : {X : Type 0} (xs ys zs : List X) (i : ℕ) → i + 1 ≤ length xs → slice_get (xs ++ ys) i ≡ slice_get (xs ++ zs) i
get_front [] ys zs i h = absurd (omega (arith, h))
get_front (x ∷ xs) ys zs zero h = refl
get_front (x ∷ xs) ys zs (suc i) h = get_front xs ys zs i (omega (arith, h))

get_behind : {X : Type 0} (xs ys : List X) (i : ℕ) → slice_get (xs ++ ys) (length xs + i) ≡ slice_get ys i
get_behind [] ys i =
    let e : 0 + i ≡ i = omega arith in
    ap (λ (n : ℕ). slice_get ys n) e
get_behind (x ∷ xs) ys i =
    let e : length (x ∷ xs) + i ≡ suc (length xs + i) = omega arith in
    ap (λ (n : ℕ). slice_get ((x ∷ xs) ++ ys) n) e ∙ get_behind xs ys i

module _ (front unheard back : List Message) where
  abbrev with_them : List Message
  with_them = front ++ (unheard ++ back)

  abbrev without_them : List Message
  without_them = front ++ back

  abbrev place : ℕ → ℕ
  place at = place_beside (length front) (length unheard) at

  front_same : (at : ℕ) → at ≤ length front → message_at with_them at ≡ message_at without_them at
  front_same at le =
      (elim (at == 0) as (λ b. (at == 0) ≡ b → cond b None (slice_get with_them (at - 1)) ≡ cond b None (slice_get without_them (at - 1))) [
        | true ↦ (λ h. refl)
        | false ↦ (λ h. let few : (at - 1) + 1 ≤ length front = grind (arith, nat_tests) in get_front front (unheard ++ back) back (at - 1) few)
      ]) refl

  behind_same : (at k : ℕ) → at ≡ length front + k + 1 → message_at with_them (at + length unheard) ≡ message_at without_them at
  behind_same at k is =
      let a : (at + length unheard) - 1 ≡ length front + (length unheard + k) = omega (arith, is) in
      let b : at - 1 ≡ length front + k = omega (arith, is) in
      let c : ((at + length unheard) == 0) ≡ false = grind (arith, nat_tests) in
      let d : (at == 0) ≡ false = grind (arith, nat_tests) in
      let with_k : slice_get with_them ((at + length unheard) - 1) ≡ slice_get back k =
      ap (λ (i : ℕ). slice_get with_them i) a ∙ get_behind front (unheard ++ back) (length unheard + k) ∙ get_behind unheard back k in
      let without_k : slice_get without_them (at - 1) ≡ slice_get back k = ap (λ (i : ℕ). slice_get without_them i) b ∙ get_behind front back k in
      ap (λ (t : Bool). cond t None (slice_get with_them ((at + length unheard) - 1))) c ∙ with_k ∙ sym without_k ∙ sym (ap (λ (t : Bool). cond t None (slice_get without_them (at - 1))) d)

  place_same : (at : ℕ) → message_at with_them (place at) ≡ message_at without_them at
  place_same at =
      (elim (nat_le at (length front)) as (λ b. nat_le at (length front) ≡ b → message_at with_them (cond b at (at + length unheard)) ≡ message_at without_them at) [
        | true ↦ (λ h. let le : at ≤ length front = grind (arith, nat_tests) in front_same at le)
        | false ↦ (λ h. let is : at ≡ length front + (at - (length front + 1)) + 1 = grind (arith, nat_tests) in behind_same at (at - (length front + 1)) is)
      ]) refl

  request_same : (at : ℕ) → request_at with_them (place at) ≡ request_at without_them at
  request_same at = ap (λ o. option_map_or as_request o None) (place_same at)

  out_same : (at : ℕ) → out_at with_them (place at) ≡ out_at without_them at
  out_same at = ap (λ o. option_map_or as_out o None) (place_same at)

-- ---- one deed

abbrev telling : Parts → List Message → Parts
telling p told = record p { told = told }

-- the same deed beside them, by which as much more is told
record DoesBeside (p : Parts) (clocks : Clocks) (deed : Deed) (new : Parts) (printed : List Line) (front unheard back : List Message) : Type 0 where
  more : List Message
  told : new.told ≡ front ++ (back ++ more)
  does : Does (telling p (front ++ (unheard ++ back))) clocks (deed_beside (length front) (length unheard) deed) (telling new (front ++ (unheard ++ (back ++ more)))) printed

module _ (p : Parts) (front unheard back : List Message) (was : p.told ≡ front ++ back) where
  told_beside : (more : List Message) → p.told ++ more ≡ front ++ (back ++ more)
  told_beside more = ap (λ u. u ++ more) was ∙ append_assoc front back more

  all_beside : (more : List Message) → front ++ (unheard ++ (back ++ more)) ≡ (front ++ (unheard ++ back)) ++ more
  all_beside more = ap (λ u. front ++ u) (sym (append_assoc unheard back more)) ∙ sym (append_assoc front (unheard ++ back) more)

  none_more : front ++ back ≡ front ++ (back ++ [])
  none_more = ap (λ u. front ++ u) (sym (append-nil back))

  -- nothing more is told
  all_same : front ++ (unheard ++ (back ++ [])) ≡ front ++ (unheard ++ back)
  all_same = ap (λ u. front ++ (unheard ++ u)) (append-nil back)

module _ (p : Parts) (clocks : Clocks) (new : Parts) (printed : List Line) (front unheard back : List Message) (was : p.told ≡ front ++ back) where
  comes_up : ComesUpBy p clocks.master new printed → DoesBeside p clocks ComesUp new printed front unheard back
  comes_up t = record {
    more = [];
    told = ap (λ (n : Parts). n.told) t.left ∙ was ∙ none_more p front unheard back was;
    does = record {
      master = t.master;
      none = t.none;
      ordered = t.ordered;
      step = t.step;
      left = ap (λ (n : Parts). telling n (front ++ (unheard ++ (back ++ [])))) t.left ∙ ap (λ (u : List Message). record p { rows = changed_rows p.rows (up_edits p.rows); master = Some t.master; told = u }) (all_same p front unheard back was);
      prints = t.prints;
    };
  }

  falls_coming_up : FallsComingUpBy p clocks.master new printed → DoesBeside p clocks FallsComingUp new printed front unheard back
  falls_coming_up t = record {
    more = [];
    told = ap (λ (n : Parts). n.told) t.left ∙ was ∙ none_more p front unheard back was;
    does = record {
      master = t.master;
      none = t.none;
      step = t.step;
      left = ap (λ (n : Parts). telling n (front ++ (unheard ++ (back ++ [])))) t.left ∙ ap (λ (u : List Message). record p { rows = changed_rows p.rows (up_edits p.rows); told = u }) (all_same p front unheard back was);
      prints = t.prints;
    };
  }

  takes : (at : ℕ) → TakesBy p clocks.master at new printed → DoesBeside p clocks (Takes at) new printed front unheard back
  takes at t = record {
    more = map ToClient t.taken.outs;
    told = ap (λ (n : Parts). n.told) t.left ∙ told_beside p front unheard back was (map ToClient t.taken.outs);
    does = record {
      master = t.master;
      request = t.request;
      next = t.next;
      taken = t.taken;
      up = t.up;
      numbered = t.numbered;
      step = t.step;
      was_told = request_same front unheard back at ∙ ap (λ (u : List Message). request_at u at) (sym was) ∙ t.was_told;
      left = ap (λ (n : Parts). telling n (front ++ (unheard ++ (back ++ map ToClient t.taken.outs)))) t.left ∙ ap (λ (u : List Message). record p { master = Some t.next; told = u }) (all_beside p front unheard back was (map ToClient t.taken.outs));
      prints = t.prints;
    };
  }

  sweeps : SweepsBy p clocks.master new printed → DoesBeside p clocks Sweeps new printed front unheard back
  sweeps t = record {
    more = map ToClient t.swept.outs;
    told = ap (λ (n : Parts). n.told) t.left ∙ told_beside p front unheard back was (map ToClient t.swept.outs);
    does = record {
      master = t.master;
      next = t.next;
      swept = t.swept;
      up = t.up;
      step = t.step;
      left = ap (λ (n : Parts). telling n (front ++ (unheard ++ (back ++ map ToClient t.swept.outs)))) t.left ∙ ap (λ (u : List Message). record p { rows = changed_rows p.rows (sweep_edits t.master clocks.master); master = Some t.next; told = u }) (all_beside p front unheard back was (map ToClient t.swept.outs));
      prints = t.prints;
    };
  }

  falls_sweeping : FallsSweepingBy p clocks.master new printed → DoesBeside p clocks FallsSweeping new printed front unheard back
  falls_sweeping t = record {
    more = [];
    told = ap (λ (n : Parts). n.told) t.left ∙ was ∙ none_more p front unheard back was;
    does = record {
      master = t.master;
      next = t.next;
      swept = t.swept;
      up = t.up;
      step = t.step;
      left = ap (λ (n : Parts). telling n (front ++ (unheard ++ (back ++ [])))) t.left ∙ ap (λ (u : List Message). record p { rows = changed_rows p.rows (sweep_edits t.master clocks.master); master = None; told = u }) (all_same p front unheard back was);
      prints = t.prints;
    };
  }

  answers_beat : AnswersBeatBy p clocks.master new printed → DoesBeside p clocks AnswersBeat new printed front unheard back
  answers_beat t = record {
    more = map ToClient t.swept.outs;
    told = ap (λ (n : Parts). n.told) t.left ∙ told_beside p front unheard back was (map ToClient t.swept.outs);
    does = record {
      master = t.master;
      next = t.next;
      swept = t.swept;
      up = t.up;
      step = t.step;
      left = ap (λ (n : Parts). telling n (front ++ (unheard ++ (back ++ map ToClient t.swept.outs)))) t.left ∙ ap (λ (u : List Message). record p { master = Some t.next; told = u }) (all_beside p front unheard back was (map ToClient t.swept.outs));
      prints = t.prints;
    };
  }

  goes : GoesBy p new printed → DoesBeside p clocks Goes new printed front unheard back
  goes t = record {
    more = [];
    told = ap (λ (n : Parts). n.told) t.left ∙ was ∙ none_more p front unheard back was;
    does = record {
      master = t.master;
      up = t.up;
      left = ap (λ (n : Parts). telling n (front ++ (unheard ++ (back ++ [])))) t.left ∙ ap (λ (u : List Message). record p { master = None; told = u }) (all_same p front unheard back was);
      prints = t.prints;
    };
  }

  begins : (number : ℕ) (principal : List ℕ) → BeginsBy p number principal new printed → DoesBeside p clocks (Begins number principal) new printed front unheard back
  begins number principal t = record {
    more = [];
    told = ap (λ (n : Parts). n.told) t.left ∙ was ∙ none_more p front unheard back was;
    does = record {
      free = t.free;
      left = ap (λ (n : Parts). telling n (front ++ (unheard ++ (back ++ [])))) t.left ∙ ap (λ (u : List Message). record p { clients = with_client p.clients number (new_client number principal); told = u }) (all_same p front unheard back was);
      prints = t.prints;
    };
  }

  asks : (number : ℕ) (ask : Ask) → AsksBy p (clocks.client number) number ask new printed → DoesBeside p clocks (Asks number ask) new printed front unheard back
  asks number ask t = record {
    more = sent_by t.asked.outcome;
    told = ap (λ (n : Parts). n.told) t.left ∙ told_beside p front unheard back was (sent_by t.asked.outcome);
    does = record {
      client = t.client;
      next = t.next;
      asked = t.asked;
      there = t.there;
      step = t.step;
      left = ap (λ (n : Parts). telling n (front ++ (unheard ++ (back ++ sent_by t.asked.outcome)))) t.left ∙ ap (λ (u : List Message). record p { clients = with_client p.clients number t.next; told = u }) (all_beside p front unheard back was (sent_by t.asked.outcome));
      prints = t.prints;
    };
  }

  beats : (number : ℕ) → BeatsBy p (clocks.client number) number new printed → DoesBeside p clocks (Beats number) new printed front unheard back
  beats number t = record {
    more = sent_as t.beaten.request;
    told = ap (λ (n : Parts). n.told) t.left ∙ told_beside p front unheard back was (sent_as t.beaten.request);
    does = record {
      client = t.client;
      next = t.next;
      beaten = t.beaten;
      there = t.there;
      step = t.step;
      left = ap (λ (n : Parts). telling n (front ++ (unheard ++ (back ++ sent_as t.beaten.request)))) t.left ∙ ap (λ (u : List Message). record p { clients = with_client p.clients number t.next; told = u }) (all_beside p front unheard back was (sent_as t.beaten.request));
      prints = t.prints;
    };
  }

  hears : (at : ℕ) → HearsBy p clocks.client at new printed → DoesBeside p clocks (Hears at) new printed front unheard back
  hears at t = record {
    more = [];
    told = ap (λ (n : Parts). n.told) t.left ∙ was ∙ none_more p front unheard back was;
    does = record {
      out = t.out;
      client = t.client;
      next = t.next;
      given = t.given;
      there = t.there;
      step = t.step;
      was_told = out_same front unheard back at ∙ ap (λ (u : List Message). out_at u at) (sym was) ∙ t.was_told;
      left = ap (λ (n : Parts). telling n (front ++ (unheard ++ (back ++ [])))) t.left ∙ ap (λ (u : List Message). record p { clients = with_client p.clients (out_client t.out) t.next; told = u }) (all_same p front unheard back was);
      prints = t.prints;
    };
  }

  does_beside : (deed : Deed) → Does p clocks deed new printed → DoesBeside p clocks deed new printed front unheard back
  does_beside ComesUp t = comes_up t
  does_beside FallsComingUp t = falls_coming_up t
  does_beside (Takes at) t = takes at t
  does_beside Sweeps t = sweeps t
  does_beside FallsSweeping t = falls_sweeping t
  does_beside AnswersBeat t = answers_beat t
  does_beside Goes t = goes t
  does_beside (Begins number principal) t = begins number principal t
  does_beside (Asks number ask) t = asks number ask t
  does_beside (Beats number) t = beats number t
  does_beside (Hears at) t = hears at t

-- ---- a history

-- the same history beside them
record GoesBeside (p : Parts) (entries : List Entry) (new : Parts) (printed : List Line) (front unheard back : List Message) : Type 0 where
  more : List Message
  told : new.told ≡ front ++ (back ++ more)
  does : History (telling p (front ++ (unheard ++ back))) (map (entry_beside (length front) (length unheard)) entries) printed (telling new (front ++ (unheard ++ (back ++ more))))

goes_beside : (p : Parts) (entries : List Entry) (new : Parts) (printed : List Line) (front unheard back : List Message) → p.told ≡ front ++ back → History p entries printed new
    → GoesBeside p entries new printed front unheard back
goes_beside p [] new printed front unheard back was h =
    let same : telling new (front ++ (unheard ++ (back ++ []))) ≡ telling p (front ++ (unheard ++ back)) =
    ap (λ (n : Parts). telling n (front ++ (unheard ++ (back ++ [])))) h.1 ∙ ap (λ (u : List Message). telling p (front ++ (unheard ++ u))) (append-nil back) in
    record { more = []; told = ap (λ (n : Parts). n.told) h.1 ∙ was ∙ ap (λ (u : List Message). front ++ u) (sym (append-nil back)); does = (h.0, same) }
goes_beside p (entry ∷ entries) new printed front unheard back was h =
    let mid : Parts = h.0 in
    let first = does_beside p entry.clocks mid h.1 front unheard back was entry.deed h.3 in
    let later = goes_beside mid entries new h.2 front unheard (back ++ first.more) first.told h.4 in
    let all : List Message = first.more ++ later.more in
    let is : (back ++ first.more) ++ later.more ≡ back ++ all = append_assoc back first.more later.more in
    let P : List Message → Type 0 = λ u. History (telling p (front ++ (unheard ++ back))) (map (entry_beside (length front) (length unheard)) (entry ∷ entries)) printed (telling new (front ++ (unheard ++ u))) in
    record {
      more = all;
      told = later.told ∙ ap (λ (u : List Message). front ++ u) is;
      does = subst P is (telling mid (front ++ (unheard ++ (back ++ first.more))), h.1, h.2, first.does, later.does, h.5);
    }

pub unheard_are : UnheardAreAsUntold
unheard_are p new unheard entries printed h =
    let g = goes_beside p entries new printed p.told unheard [] (sym (append-nil p.told)) h in
    let P : List Message → Type 0 = λ u. History (record p { told = p.told ++ u }) (map (entry_beside (length p.told) (length unheard)) entries) printed (record new { told = p.told ++ (unheard ++ g.more) }) in
    (g.more, g.told, subst P (append-nil unheard) g.does)
