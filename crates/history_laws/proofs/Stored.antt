-- Histories over a store, with crashes between them, deed by deed.
use Rattle.std.proofs.Common.{◌≡◌, ℕ, ◌≤◌, List, [], ◌∷◌, ◌++◌, map, Option, Some, false, arith, refl, sym, ap, ◌∙◌, subst, append_assoc}
use Rattle.std.proofs.lemmas.List.{append-nil, map-append}
use Rattle.lease_core.specs.Lease.{longest_lease}
use Rattle.coherence.specs.Slice.{IsIn}
use Rattle.node_core.specs.declared.lines.Line.{Line}
use Rattle.node_core.specs.declared.views.View.{View}
use Rattle.node_core.specs.Nodes.{view_at}
use Rattle.rows_cell.specs.declared.settings.MasterTerms.{MasterTerms}
use Rattle.rows_cell.specs.declared.tables.Rows.{Rows}
use Rattle.rows_cell.specs.Rows.{map_of}
use Rattle.rows_cell.specs.Stores.{Store}
use Rattle.cache_core.specs.Caches.{answer}
use Rattle.client_core.specs.State.{ClientState}
use Rattle.client_core.specs.declared.parts.targets.Outstanding.{Outstanding}
use Rattle.world_cell.specs.Consistent.{HasAsked}
use Rattle.over_core.specs.Sweep.{IsSwept}
use Rattle.history_laws.specs.Parts.{Parts, Goes}
use Rattle.history_laws.specs.Histories.{Clocks, Entry, AreFair, GoOnTo}
use Rattle.history_laws.specs.Crashes.{StoredParts, nothing_over, StoredEntry, StoredHistory, DoesStored, as_clocked, crashed_over, CrashedHistories, entries_then}
use Rattle.history_laws.proofs.Crashes.{crashed_answer, crashed_asked}

abbrev pub with_store : Parts → Store → StoredParts
with_store p store = record { parts = p; store = store }

-- where nothing is committed the store stays
pub stood : (store : Store) → IsSwept false [] store store
stood store = record { cell = refl; rows = refl; leave = refl; counted = refl; doubted = omega arith }

-- by these entries parts over a store came to be so
pub record Been (base : Store) (terms : MasterTerms) (entries : List Entry) (o : StoredParts) : Type 0 where
  pub histories : List (List StoredEntry)
  pub printed : List (List Line)
  pub begun : StoredParts
  pub last : List StoredEntry
  pub told : List Line
  pub crashes : CrashedHistories (nothing_over base terms) histories printed begun
  pub since : StoredHistory begun last told o
  pub all : entries ≡ entries_then histories (map as_clocked last)

-- ---- more entries

pub then_append : (histories : List (List StoredEntry)) (xs ys : List Entry) → entries_then histories xs ++ ys ≡ entries_then histories (xs ++ ys)
then_append [] xs ys = refl
then_append (entries ∷ others) xs ys = append_assoc (map as_clocked entries) (entries_then others xs) ys ∙ ap (λ (l : List Entry). map as_clocked entries ++ l) (then_append others xs ys)

then_last : (histories : List (List StoredEntry)) (last : List StoredEntry) (xs : List Entry) → entries_then (histories ++ last ∷ []) xs ≡ entries_then histories (map as_clocked last ++ xs)
then_last [] last xs = refl
then_last (entries ∷ others) last xs = ap (λ (l : List Entry). map as_clocked entries ++ l) (then_last others last xs)

stored_more : (old mid new : StoredParts) (entries : List StoredEntry) (last : StoredEntry) (printed told : List Line) → StoredHistory old entries printed mid → DoesStored mid last.clocks last.deed new told → StoredHistory old (entries ++ last ∷ []) (printed ++ told) new
stored_more old mid new [] last printed told h does =
    (new, told, [], subst (λ (q : StoredParts). DoesStored q last.clocks last.deed new told) h.1 does, (refl, refl), ap (λ (l : List Line). l ++ told) h.0 ∙ sym (append-nil told))
stored_more old mid new (entry ∷ entries) last printed told h does =
    (h.0, h.1, h.2 ++ told, h.3, stored_more h.0 mid new entries last h.2 told h.4 does, ap (λ (l : List Line). l ++ told) h.5 ∙ append_assoc h.1 h.2 told)

crashes_more : (old begun here : StoredParts) (histories : List (List StoredEntry)) (printed : List (List Line)) (last : List StoredEntry) (told : List Line) (rows : Rows) → CrashedHistories old histories printed begun → StoredHistory begun last told here → IsIn rows here.store.may_leave
    → CrashedHistories old (histories ++ last ∷ []) (printed ++ told ∷ []) (crashed_over here rows)
crashes_more old begun here [] printed last told rows h since may =
    (here, told, [], rows, subst (λ (b : StoredParts). StoredHistory b last told here) h.1 since, may, (refl, refl), ap (λ (l : List (List Line)). l ++ told ∷ []) h.0)
crashes_more old begun here (entries ∷ others) printed last told rows h since may =
    (h.0, h.1, h.2 ++ told ∷ [], h.3, h.4, h.5, crashes_more (crashed_over h.0 h.3) begun here others h.2 last told rows h.6 since may, ap (λ (l : List (List Line)). l ++ told ∷ []) h.7)

-- ---- one deed, or a crash

pub been_more : (base : Store) (terms : MasterTerms) (entries : List Entry) (o new : StoredParts) (last : StoredEntry) (printed : List Line) → Been base terms entries o → DoesStored o last.clocks last.deed new printed → Been base terms (entries ++ as_clocked last ∷ []) new
been_more base terms entries o new last printed b does = record {
  histories = b.histories;
  printed = b.printed;
  begun = b.begun;
  last = b.last ++ last ∷ [];
  told = b.told ++ printed;
  crashes = b.crashes;
  since = stored_more b.begun o new b.last last b.told printed b.since does;
  all = ap (λ (l : List Entry). l ++ as_clocked last ∷ []) b.all ∙ then_append b.histories (map as_clocked b.last) (as_clocked last ∷ []) ∙ ap (entries_then b.histories) (sym (map-append as_clocked b.last (last ∷ [])));
}

pub been_crash : (base : Store) (terms : MasterTerms) (entries : List Entry) (o : StoredParts) (rows : Rows) → Been base terms entries o → IsIn rows o.store.may_leave → Been base terms entries (crashed_over o rows)
been_crash base terms entries o rows b may = record {
  histories = b.histories ++ b.last ∷ [];
  printed = b.printed ++ b.told ∷ [];
  begun = crashed_over o rows;
  last = [];
  told = [];
  crashes = crashes_more (nothing_over base terms) b.begun o b.histories b.printed b.last b.told rows b.crashes b.since may;
  since = (refl, refl);
  all = b.all ∙ ap (entries_then b.histories) (sym (append-nil (map as_clocked b.last))) ∙ sym (then_last b.histories b.last []);
}

-- ---- what holds then

pub been_answers : (base : Store) (terms : MasterTerms) (entries : List Entry) (o : StoredParts) (now : Clocks) (number : ℕ) (client : ClientState) (name : List ℕ) (entry : Option View) → terms.lease ≤ longest_lease → Been base terms entries o → GoOnTo entries now → o.store.doubt ≡ 0 → o.parts.clients number ≡ Some client
    → answer client.cache (now.client number) name ≡ Some entry → entry ≡ view_at (map_of o.parts.rows) name
been_answers base terms entries o now number client name entry range b fair sure there is =
    let goes : List Entry = record { clocks = now; deed = Goes } ∷ [] in
    let so : entries ++ goes ≡ entries_then b.histories (map as_clocked b.last ++ goes) = ap (λ (l : List Entry). l ++ goes) b.all ∙ then_append b.histories (map as_clocked b.last) goes in
    crashed_answer base terms b.histories b.printed b.begun b.last b.told o now number client name entry range b.crashes b.since (subst AreFair so fair) sure there is

pub been_asked : (base : Store) (terms : MasterTerms) (entries : List Entry) (o : StoredParts) (number : ℕ) (client : ClientState) (call : Outstanding) → terms.lease ≤ longest_lease → Been base terms entries o → AreFair entries → o.store.doubt ≡ 0 → o.parts.clients number ≡ Some client → client.outstanding ≡ Some call
    → HasAsked o.parts.told client call
been_asked base terms entries o number client call range b fair sure there waits =
    crashed_asked base terms b.histories b.printed b.begun b.last b.told o number client call range b.crashes b.since (subst AreFair b.all fair) sure there waits
