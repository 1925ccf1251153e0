-- One more entry at the end of the trail.
use Rattle.std.proofs.Common.{◌≡◌, ℕ, ◌+◌, ◌<◌, List, [], ◌∷◌, ◌++◌, length, map, Some, Ok, refl, sym, ap, ◌∙◌, arith, append_assoc, append-nil, length-append}
use Rattle.std.specs.Prelude.{count_by}
use Rattle.std.proofs.lemmas.List.{length-map}
use Rattle.node_core.specs.declared.lines.Line.{Line}
use Rattle.rights_core.specs.Rights.{is_acknowledged, is_expired}
use Rattle.rights_core.specs.Grants.{Told, rights_at, told_of, Tells, is_acknowledged_told, is_expired_told, is_granted_line, is_acked_line, is_expired_line}
use Rattle.rights_core.proofs.ToldLines.{told_both, count_told, told_balanced}
use Rattle.over_core.specs.declared.swept.Swept.{Swept}
use Rattle.watch_cell.specs.declared.events.WatchEvent.{WatchEvent}
use Rattle.watch_cell.specs.declared.events.Entry.{Entry}
use Rattle.watch_cell.specs.Views.{WatchedState}
use Rattle.watch_cell.specs.Trail.{entry, step_of, Replays, lines_of, grants_of, Kept}

replays_push : (s t u : WatchedState) (es : List Entry) (e : WatchEvent) (r : Swept) → Replays s es t → step_of t e ≡ Ok (u, r) → Replays s (es ++ entry e r ∷ []) u
replays_push s t u [] e r is eq = (u, ap (λ w. step_of w e) (sym is) ∙ eq, refl)
replays_push s t u (x ∷ es) e r is eq = (is.0, is.1, replays_push is.0 t u es e r is.2 eq)

lines_push : (es : List Entry) (e : Entry) → lines_of (es ++ e ∷ []) ≡ lines_of es ++ e.reply.lines
lines_push [] e = append-nil e.reply.lines
lines_push (x ∷ es) e = ap (λ w. x.reply.lines ++ w) (lines_push es e) ∙ sym (append_assoc x.reply.lines (lines_of es) e.reply.lines)

kept_push : (opening s u : WatchedState) (es : List Entry) (e : WatchEvent) (r : Swept) (i a x c : ℕ) → Kept opening s es i a x c → length es < 1000000 → step_of s e ≡ Ok (u, r) → Tells s.master.rights r.lines u.master.rights
    → Kept opening u (es ++ entry e r ∷ []) (i + count_by is_granted_line r.lines) (a + count_by is_acked_line r.lines) (x + count_by is_expired_line r.lines) (c + 1)
kept_push opening s u es e r i a x c kept room eq tells =
    let old = s.master.rights in
    let new = u.master.rights in
    let grants : List Told = map told_of new in
    let here : rights_at (map told_of old) r.lines ≡ Some grants = tells.rights in
    let before : grants_of es ≡ Some (map told_of old) = kept.once ∙ ap (λ w. Some w) (sym kept.cell_has) in
    let once : grants_of (es ++ entry e r ∷ []) ≡ Some grants = ap (rights_at []) (lines_push es (entry e r)) ∙ told_both [] (map told_of old) grants (lines_of es) r.lines before here in
    let was_issued : i ≡ length old = kept.issued_is ∙ ap length (sym kept.cell_has) ∙ length-map old told_of in
    let was_acked : a ≡ count_by is_acknowledged old = kept.acknowledged_is ∙ ap (count_by is_acknowledged_told) (sym kept.cell_has) ∙ sym (count_told is_acknowledged_told old) in
    let was_gone : x ≡ count_by is_expired old = kept.expired_is ∙ ap (count_by is_expired_told) (sym kept.cell_has) ∙ sym (count_told is_expired_told old) in
    let issued : i + count_by is_granted_line r.lines ≡ length grants = omega (arith, was_issued, tells.issued, length-map new told_of) in
    let acked : a + count_by is_acked_line r.lines ≡ count_by is_acknowledged_told grants = omega (arith, was_acked, tells.acknowledged, count_told is_acknowledged_told new) in
    let gone : x + count_by is_expired_line r.lines ≡ count_by is_expired_told grants = omega (arith, was_gone, tells.expired, count_told is_expired_told new) in
    let all = told_balanced grants in
    record {
      none_granted = kept.none_granted;
      replay = replays_push opening s u es e r kept.replay eq;
      grants = grants;
      once = once;
      cell_has = refl;
      issued_is = issued;
      acknowledged_is = acked;
      expired_is = gone;
      calls_is = omega (arith, kept.calls_is, length-append es (entry e r ∷ []));
      balance = omega (arith, issued, acked, gone, all);
      short = omega (arith, length-append es (entry e r ∷ []));
    }

-- the same, of values that are equal to these
pub kept_after : (opening s u : WatchedState) (es es' : List Entry) (e : WatchEvent) (r : Swept) (i a x c i' a' x' c' : ℕ) → Kept opening s es i a x c → length es < 1000000 → step_of s e ≡ Ok (u, r) → Tells s.master.rights r.lines u.master.rights
    → es' ≡ es ++ entry e r ∷ [] → i' ≡ i + count_by is_granted_line r.lines → a' ≡ a + count_by is_acked_line r.lines → x' ≡ x + count_by is_expired_line r.lines → c' ≡ c + 1
    → Kept opening u es' i' a' x' c'
kept_after opening s u es es' e r i a x c i' a' x' c' kept room eq tells te ti ta tx tc =
    rw (te, ti, ta, tx, tc) (kept_push opening s u es e r i a x c kept room eq tells)

-- before the first entry
pub kept_first : (opening cell : WatchedState) → cell ≡ opening → cell.master.rights ≡ [] → Kept opening cell [] 0 0 0 0
kept_first opening cell is none = record {
  none_granted = sym (ap (λ (w : WatchedState). w.master.rights) is) ∙ none;
  replay = is;
  grants = [];
  once = refl;
  cell_has = ap (map told_of) none;
  issued_is = refl;
  acknowledged_is = refl;
  expired_is = refl;
  calls_is = refl;
  balance = refl;
  short = omega arith;
}
