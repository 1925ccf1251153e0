-- Deeds that are tried: what one leaves, where it is possible.
use Rattle.std.proofs.Common.{◌≡◌, ℕ, List, [], ◌∷◌, ◌++◌, Bool, true, false, cond, map, Option, Some, None, Less, Equal, Greater, refl, sym, ap, ◌∙◌, subst}
use Rattle.std.specs.Prelude.{◌&&◌, Result, Ok, Err, is_some}
use Rattle.std.specs.List.{list_all, AllByRecursion}
use Rattle.std.specs.List.Sorted.{IsStrictlySortedBy}
use Rattle.std.proofs.Common.{Ordering}
use Rattle.std.specs.Ordering.{nat_cmp}
use Rattle.std.specs.Cmp.Lexicographic.{slice_cmp}
use Rattle.std.specs.Map.{keys_of}
use Rattle.std.specs.Option.{option_and_then}
use Rattle.node_core.specs.declared.lines.Line.{Line}
use Rattle.node_core.specs.declared.lines.Line.TheVariants as lines
use Rattle.node_core.specs.declared.refusals.Fault.{Fault}
use Rattle.rows_cell.specs.declared.tables.Rows.{Rows}
use Rattle.rows_cell.specs.Rows.{changed_rows}
use Rattle.rows_cell.specs.Keys.{lock_order}
use Rattle.tags_cell.specs.Numbers.{is_client_number}
use Rattle.tags_cell.specs.declared.messages.requests.Request.{Request}
use Rattle.tags_cell.specs.declared.messages.outs.Out.{Out}
use Rattle.tags_cell.specs.Messages.{request_client, out_client}
use Rattle.master_parts.specs.declared.pending.Taken.{Taken}
use Rattle.master_state.specs.State.{MasterState}
use Rattle.cell_core.specs.Step.{take_step}
use Rattle.over_core.specs.declared.swept.Swept.{Swept}
use Rattle.over_core.specs.Sweep.{sweep_step, sweep_edits}
use Rattle.over_core.specs.Up.{up_step, up_edits}
use Rattle.client_core.specs.declared.parts.steps.Beaten.{Beaten}
use Rattle.client_core.specs.declared.parts.steps.Given.{Given}
use Rattle.client_core.specs.State.{ClientState, new_client}
use Rattle.client_core.specs.Beats.{beat_step}
use Rattle.client_core.specs.Gives.{give_step}
use Rattle.world_steps.specs.declared.mail.Message.TheVariants.{ToClient}
use Rattle.world_steps.specs.Messages.{request_at, out_at}
use Rattle.world_steps.specs.World.{given_lines}
use Rattle.world_steps.specs.Made.{AreInOrder}
use Rattle.history_laws.specs.Parts.{Parts, Deed, ComesUp, FallsComingUp, Takes, Sweeps, FallsSweeping, AnswersBeat, Goes, Begins, Asks, Beats, Hears, with_client, sent_as}
use Rattle.history_laws.specs.Histories.{Clocks, Entry, Does, History}

both : (a b : Bool) → (a && b) ≡ true → (a ≡ true) × (b ≡ true)
both true true h = (refl, refl)
both true false h = cc
both false b h = cc

-- ---- rows in order

module _ {K : Type 0} (cmp : K → K → Ordering) where
  abbrev is_less : Ordering → Bool
  is_less Less = true
  is_less Equal = false
  is_less Greater = false

  less : (o : Ordering) → is_less o ≡ true → o ≡ Less
  less Less h = refl
  less Equal h = cc
  less Greater h = cc

  abbrev pub in_order : List K → Bool
  in_order [] = true
  in_order (x ∷ xs) = list_all (λ y. is_less (cmp x y)) xs && in_order xs

  all_less : (x : K) (xs : List K) → list_all (λ y. is_less (cmp x y)) xs ≡ true → AllByRecursion (λ y. cmp x y ≡ Less) xs
  all_less x [] h = tt
  all_less x (y ∷ ys) h =
      let two = both (is_less (cmp x y)) (list_all (λ z. is_less (cmp x z)) ys) h in
      (less (cmp x y) two.0, all_less x ys two.1)

  pub sorted : (xs : List K) → in_order xs ≡ true → IsStrictlySortedBy cmp xs
  unfolding IsStrictlySortedBy
  sorted [] h = tt
  sorted (x ∷ xs) h =
      let two = both (list_all (λ y. is_less (cmp x y)) xs) (in_order xs) h in
      (all_less x xs two.0, sorted xs two.1)

abbrev rows_in_order : Rows → Bool
rows_in_order rows = in_order (slice_cmp nat_cmp) (keys_of rows.nodes) && (in_order nat_cmp (keys_of rows.sessions) && in_order lock_order (keys_of rows.locks))

are_in_order : (rows : Rows) → rows_in_order rows ≡ true → AreInOrder rows
are_in_order rows h =
    let one = both (in_order (slice_cmp nat_cmp) (keys_of rows.nodes)) (in_order nat_cmp (keys_of rows.sessions) && in_order lock_order (keys_of rows.locks)) h in
    let two = both (in_order nat_cmp (keys_of rows.sessions)) (in_order lock_order (keys_of rows.locks)) one.1 in
    record { names = sorted (slice_cmp nat_cmp) (keys_of rows.nodes) one.0; sessions = sorted nat_cmp (keys_of rows.sessions) two.0; locks = sorted lock_order (keys_of rows.locks) two.1 }

-- ---- each deed

abbrev Behind : Type 0
Behind = Parts × List Line

-- what is found is what the deed leaves
abbrev Finds : Parts → Clocks → Deed → Option Behind → Type 0
Finds p clocks deed found = (x : Behind) → found ≡ Some x → Does p clocks deed x.0 x.1

that_one : (P : Behind → Type 0) (a x : Behind) → (let o : Option Behind = Some a in o) ≡ Some x → P a → P x
that_one P a x h own = let is : a ≡ x = cc in subst P is own

module _ (p : Parts) (clocks : Clocks) where
  abbrev at_up : MasterState → Behind
  at_up master = (record p { rows = changed_rows p.rows (up_edits p.rows); master = Some master }, lines.Up master.epoch ∷ [])

  abbrev comes : Option MasterState → Bool → Result MasterState Fault → Option Behind
  comes None true (Ok master) = Some (at_up master)
  comes None true (Err fault) = None
  comes None false r = None
  comes (Some s) b r = None

  comes_so : (m : Option MasterState) (b : Bool) (r : Result MasterState Fault) → p.master ≡ m → rows_in_order p.rows ≡ b → up_step p.cell p.rows p.terms clocks.master ≡ r → Finds p clocks ComesUp (comes m b r)
  comes_so None true (Ok master) none order step x h =
      that_one (λ y. Does p clocks ComesUp y.0 y.1) (at_up master) x h (record { master = master; none = none; ordered = are_in_order p.rows order; step = step; left = refl; prints = refl })
  comes_so None true (Err fault) none order step x h = cc
  comes_so None false r none order step x h = cc
  comes_so (Some s) b r none order step x h = cc

  abbrev at_take : MasterState × Taken → Behind
  at_take done = (record p { master = Some done.0; told = p.told ++ map ToClient done.1.outs }, done.1.lines)

  abbrev took : Bool → Result (MasterState × Taken) Fault → Option Behind
  took true (Ok done) = Some (at_take done)
  took true (Err fault) = None
  took false r = None

  took_so : (at : ℕ) (master : MasterState) (request : Request) (b : Bool) (r : Result (MasterState × Taken) Fault) → p.master ≡ Some master → request_at p.told at ≡ Some request → is_client_number (request_client request) ≡ b → take_step master clocks.master request ≡ r → Finds p clocks (Takes at) (took b r)
  took_so at master request true (Ok done) up told numbered step x h =
      that_one (λ y. Does p clocks (Takes at) y.0 y.1) (at_take done) x h (record { master = master; request = request; next = done.0; taken = done.1; up = up; was_told = told; numbered = numbered; step = step; left = refl; prints = refl })
  took_so at master request true (Err fault) up told numbered step x h = cc
  took_so at master request false r up told numbered step x h = cc

  abbrev takes : Option MasterState → Option Request → Option Behind
  takes (Some master) (Some request) = took (is_client_number (request_client request)) (take_step master clocks.master request)
  takes (Some master) None = None
  takes None o = None

  takes_so : (at : ℕ) (m : Option MasterState) (o : Option Request) → p.master ≡ m → request_at p.told at ≡ o → Finds p clocks (Takes at) (takes m o)
  takes_so at (Some master) (Some request) up told = took_so at master request (is_client_number (request_client request)) (take_step master clocks.master request) up told refl refl
  takes_so at (Some master) None up told = λ x h. cc
  takes_so at None o up told = λ x h. cc

  abbrev at_sweep : MasterState → MasterState × Swept → Behind
  at_sweep master done = (record p { rows = changed_rows p.rows (sweep_edits master clocks.master); master = Some done.0; told = p.told ++ map ToClient done.1.outs }, done.1.lines)

  abbrev swept : MasterState → Result (MasterState × Swept) Fault → Option Behind
  swept master (Ok done) = Some (at_sweep master done)
  swept master (Err fault) = None

  swept_so : (master : MasterState) (r : Result (MasterState × Swept) Fault) → p.master ≡ Some master → sweep_step master clocks.master ≡ r → Finds p clocks Sweeps (swept master r)
  swept_so master (Ok done) up step x h =
      that_one (λ y. Does p clocks Sweeps y.0 y.1) (at_sweep master done) x h (record { master = master; next = done.0; swept = done.1; up = up; step = step; left = refl; prints = refl })
  swept_so master (Err fault) up step x h = cc

  abbrev sweeps : Option MasterState → Option Behind
  sweeps (Some master) = swept master (sweep_step master clocks.master)
  sweeps None = None

  sweeps_so : (m : Option MasterState) → p.master ≡ m → Finds p clocks Sweeps (sweeps m)
  sweeps_so (Some master) up = swept_so master (sweep_step master clocks.master) up refl
  sweeps_so None up = λ x h. cc

  abbrev goes : Option MasterState → Option Behind
  goes (Some master) = Some (record p { master = None }, lines.Down ∷ [])
  goes None = None

  goes_so : (m : Option MasterState) → p.master ≡ m → Finds p clocks Goes (goes m)
  goes_so (Some master) up x h = that_one (λ y. Does p clocks Goes y.0 y.1) (record p { master = None }, lines.Down ∷ []) x h (record { master = master; up = up; left = refl; prints = refl })
  goes_so None up x h = cc

  abbrev begins : ℕ → List ℕ → Option ClientState → Option Behind
  begins number principal None = Some (record p { clients = with_client p.clients number (new_client number principal) }, [])
  begins number principal (Some client) = None

  begins_so : (number : ℕ) (principal : List ℕ) (o : Option ClientState) → p.clients number ≡ o → Finds p clocks (Begins number principal) (begins number principal o)
  begins_so number principal None free x h =
      that_one (λ y. Does p clocks (Begins number principal) y.0 y.1) (record p { clients = with_client p.clients number (new_client number principal) }, []) x h (record { free = free; left = refl; prints = refl })
  begins_so number principal (Some client) free x h = cc

  abbrev at_beat : ℕ → ClientState → Beaten → Behind
  at_beat number next beaten = (record p { clients = with_client p.clients number next; told = p.told ++ sent_as beaten.request }, beaten.lines)

  abbrev beaten : ℕ → ClientState × Result Beaten Fault → Option Behind
  beaten number (next, Ok done) = Some (at_beat number next done)
  beaten number (next, Err fault) = None

  beaten_so : (number : ℕ) (client : ClientState) (r : ClientState × Result Beaten Fault) → p.clients number ≡ Some client → beat_step client (clocks.client number) ≡ r → Finds p clocks (Beats number) (beaten number r)
  beaten_so number client (next, Ok done) there step x h =
      that_one (λ y. Does p clocks (Beats number) y.0 y.1) (at_beat number next done) x h (record { client = client; next = next; beaten = done; there = there; step = step; left = refl; prints = refl })
  beaten_so number client (next, Err fault) there step x h = cc

  abbrev beats : ℕ → Option ClientState → Option Behind
  beats number (Some client) = beaten number (beat_step client (clocks.client number))
  beats number None = None

  beats_so : (number : ℕ) (o : Option ClientState) → p.clients number ≡ o → Finds p clocks (Beats number) (beats number o)
  beats_so number (Some client) there = beaten_so number client (beat_step client (clocks.client number)) there refl
  beats_so number None there = λ x h. cc

  abbrev at_hear : Out → ClientState → Given → Behind
  at_hear out next given = (record p { clients = with_client p.clients (out_client out) next }, given_lines given.lines given.refused)

  abbrev heard : Out → ClientState × Result Given Fault → Option Behind
  heard out (next, Ok given) = Some (at_hear out next given)
  heard out (next, Err fault) = None

  heard_so : (at : ℕ) (out : Out) (client : ClientState) (r : ClientState × Result Given Fault) → out_at p.told at ≡ Some out → p.clients (out_client out) ≡ Some client → give_step client (clocks.client (out_client out)) out ≡ r → Finds p clocks (Hears at) (heard out r)
  heard_so at out client (next, Ok given) told there step x h =
      that_one (λ y. Does p clocks (Hears at) y.0 y.1) (at_hear out next given) x h (record { out = out; client = client; next = next; given = given; was_told = told; there = there; step = step; left = refl; prints = refl })
  heard_so at out client (next, Err fault) told there step x h = cc

  abbrev hears_by : Out → Option ClientState → Option Behind
  hears_by out (Some client) = heard out (give_step client (clocks.client (out_client out)) out)
  hears_by out None = None

  hears_by_so : (at : ℕ) (out : Out) (o : Option ClientState) → out_at p.told at ≡ Some out → p.clients (out_client out) ≡ o → Finds p clocks (Hears at) (hears_by out o)
  hears_by_so at out (Some client) told there = heard_so at out client (give_step client (clocks.client (out_client out)) out) told there refl
  hears_by_so at out None told there = λ x h. cc

  abbrev hears : Option Out → Option Behind
  hears (Some out) = hears_by out (p.clients (out_client out))
  hears None = None

  hears_so : (at : ℕ) (o : Option Out) → out_at p.told at ≡ o → Finds p clocks (Hears at) (hears o)
  hears_so at (Some out) told = hears_by_so at out (p.clients (out_client out)) told refl
  hears_so at None told = λ x h. cc

  abbrev tried : Deed → Option Behind
  tried ComesUp = comes p.master (rows_in_order p.rows) (up_step p.cell p.rows p.terms clocks.master)
  tried (Takes at) = takes p.master (request_at p.told at)
  tried Sweeps = sweeps p.master
  tried Goes = goes p.master
  tried (Begins number principal) = begins number principal (p.clients number)
  tried (Beats number) = beats number (p.clients number)
  tried (Hears at) = hears (out_at p.told at)
  tried deed = None

  tried_so : (deed : Deed) → Finds p clocks deed (tried deed)
  tried_so ComesUp = comes_so p.master (rows_in_order p.rows) (up_step p.cell p.rows p.terms clocks.master) refl refl refl
  tried_so (Takes at) = takes_so at p.master (request_at p.told at) refl refl
  tried_so Sweeps = sweeps_so p.master refl
  tried_so Goes = goes_so p.master refl
  tried_so (Begins number principal) = begins_so number principal (p.clients number) refl
  tried_so (Beats number) = beats_so number (p.clients number) refl
  tried_so (Hears at) = hears_so at (out_at p.told at) refl
  tried_so FallsComingUp = λ x h. cc
  tried_so FallsSweeping = λ x h. cc
  tried_so AnswersBeat = λ x h. cc
  tried_so (Asks number ask) = λ x h. cc

-- ---- entries, one after the other

abbrev and_then : List Line → Option Behind → Option Behind
and_then here (Some x) = Some (x.0, here ++ x.1)
and_then here None = None

abbrev pub go : Parts → List Entry → Option Behind
go p [] = Some (p, [])
go p (entry ∷ entries) = option_and_then (λ x. and_then x.1 (go x.0 entries)) (tried p entry.clocks entry.deed)

-- what is found so is the end of a history
abbrev Ends : Parts → List Entry → Option Behind → Type 0
Ends p entries found = (x : Behind) → found ≡ Some x → History p entries x.1 x.0

rest_so : (p mid : Parts) (entry : Entry) (entries : List Entry) (here : List Line) (o : Option Behind) → Does p entry.clocks entry.deed mid here → Ends mid entries o → Ends p (entry ∷ entries) (and_then here o)
rest_so p mid entry entries here None does later x h = cc
rest_so p mid entry entries here (Some y) does later x h =
    that_one (λ z. History p (entry ∷ entries) z.1 z.0) (y.0, here ++ y.1) x h (mid, here, y.1, does, later y refl, refl)

pub go_so : (entries : List Entry) (p : Parts) → Ends p entries (go p entries)
go_so [] p = λ x h. that_one (λ z. History p [] z.1 z.0) (p, []) x h (refl, refl)
go_so (entry ∷ entries) p =
    (elim (tried p entry.clocks entry.deed) as (λ o. tried p entry.clocks entry.deed ≡ o → Ends p (entry ∷ entries) (option_and_then (λ x. and_then x.1 (go x.0 entries)) o)) [
      | None ↦ (λ is x h. cc)
      | Some y ↦ (λ is. rest_so p y.0 entry entries y.1 (go y.0 entries) (tried_so p entry.clocks entry.deed y is) (go_so entries y.0))
    ]) refl

-- what is found
pub found : (o : Option Behind) → is_some o ≡ true → (x : Behind) × (o ≡ Some x)
found (Some x) h = (x, refl)
found None h = cc
