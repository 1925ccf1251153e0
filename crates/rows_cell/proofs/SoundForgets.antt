-- A session of which nothing is recorded any more leaves the rows sound.
use Rattle.std.proofs.Common.{◌≡◌, ℕ, List, [], ◌∷◌, Bool, true, false, ap, subst, ◌∙◌, refl}
use Rattle.std.specs.Prelude.{◌&&◌, ◌==◌, nat_le}
use Rattle.std.specs.Option.{option_map_or}
use Rattle.std.specs.Ordering.{nat_cmp}
use Rattle.std.specs.List.{list_any}
use Rattle.std.specs.Map.{remove_entry}
use Rattle.std.specs.BTreeMap.{is_at}
use Rattle.std.proofs.lemmas.Bool.{and_parts, and_from}
use Rattle.std.proofs.lemmas.Map.Lookups.{exact_unsigned}
use Rattle.rows_cell.specs.declared.tables.SessionRow.{SessionRow}
use Rattle.rows_cell.specs.declared.keys.LockKey.{LockKey}
use Rattle.rows_cell.specs.declared.tables.Rows.{Rows}
use Rattle.rows_cell.specs.declared.tables.Edit.TheVariants.{RemoveSession, EndedBelow}
use Rattle.rows_cell.specs.Rows.{changed_rows}
use Rattle.rows_cell.specs.Sound.{sound, is_number, is_live_in, holder_fits}
use Rattle.rows_cell.proofs.SoundParts.{parts_of, sound_of, locks_stay}
use Rattle.rows_cell.proofs.SoundRemovals.{all_gone, lookup_elsewhere}

module _ (rows : Rows) (client : ℕ) (next : ℕ) where
  abbrev forgotten : Rows
  forgotten = record rows { sessions = remove_entry (is_at (nat_cmp client)) rows.sessions; ended_below = next }

  another : (q : ℕ) → is_live_in rows client ≡ false → is_live_in rows q ≡ true → q ≡ client → ⊥
  another q ended live same =
      let ends : is_live_in rows client ≡ true = subst (λ (n : ℕ). is_live_in rows n ≡ true) same live in
      cc

  -- the live sessions stay
  live_left : (q : ℕ) → is_live_in rows client ≡ false → is_live_in rows q ≡ true → is_live_in forgotten q ≡ true
  live_left q ended live =
      ap (λ o. option_map_or (λ (s : SessionRow). s.live) o false) (lookup_elsewhere nat_cmp exact_unsigned rows.sessions client q (another q ended live)) ∙ live

  holder_left : is_live_in rows client ≡ false → (key : LockKey) → holder_fits rows key ≡ true → holder_fits forgotten key ≡ true
  holder_left ended key h =
      let some : Bool = list_any (λ e. e.1.node.instance == key.instance && nat_le 1 e.1.lock_generation) rows.nodes in
      let t = and_parts some (is_live_in rows key.client) h in
      and_from some (is_live_in forgotten key.client) t.0 (live_left key.client ended t.1)

-- one that has ended holds no lock
pub forgets_sound : (cell : List ℕ) (rows : Rows) (client next : ℕ) → sound cell rows ≡ true → is_live_in rows client ≡ false → sound cell (changed_rows rows (RemoveSession client ∷ EndedBelow next ∷ [])) ≡ true
forgets_sound cell rows client next h ended =
    let p = parts_of cell rows h in
    sound_of cell (forgotten rows client next) (record {
      named = p.named;
      epoch = p.epoch;
      next = p.next;
      root = p.root;
      nodes = p.nodes;
      distinct = p.distinct;
      sessions = all_gone (is_at (nat_cmp client)) (λ e. is_number e.0) rows.sessions p.sessions;
      locks = locks_stay rows (forgotten rows client next) refl (λ n k. k) (holder_left rows client next ended) p.locks;
    })
