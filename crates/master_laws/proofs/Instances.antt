-- A change that waits, and the moment from which it can't any longer.
use Rattle.std.proofs.Common.{◌≡◌, ℕ, ◌<◌, List, [], ◌∷◌, Bool, true, false, Option, Some, None, refl, sym, ap, ◌∙◌, arith}
use Rattle.std.specs.Prelude.{is_some}
use Rattle.std.specs.Map.{keys_of}
use Rattle.std.specs.Option.{option_map, option_map_or}
use Rattle.std.specs.List.Sorted.{IsStrictlySortedBy}
use Rattle.std.specs.Ordering.{nat_cmp}
use Rattle.std.specs.Cmp.Lexicographic.{slice_cmp}
use Rattle.rows_cell.specs.Keys.{lock_order}
use Rattle.rows_cell.specs.Settings.{standard, no_limits, terms_of}
use Rattle.rows_cell.specs.Sound.{sound}
use Rattle.tags_cell.specs.declared.messages.outs.Reply.{Reply}
use Rattle.rights_core.specs.Rights.{holds, ended}
use Rattle.rights_core.specs.Laws.{asked_for}
use Rattle.rights_core.specs.declared.endings.Ending.TheVariants as endings
use Rattle.gate_core.specs.Gate.{touches}
use Rattle.gate_core.specs.declared.pending.Waiting.{Waiting}
use Rattle.session_core.specs.declared.records.Session.{Session}
use Rattle.master_parts.specs.declared.pending.Task.{Task}
use Rattle.master_state.specs.State.{next_change}
use Rattle.master_state.specs.Lookups.{session_of, noted}
use Rattle.cell_core.specs.Step.{take_step}
use Rattle.over_core.specs.declared.actions.Action.TheVariants as actions
use Rattle.over_core.specs.Plans.{first_action}
use Rattle.over_core.specs.Sweep.{sweep_step}
use Rattle.over_core.specs.Deadlines.{quiet_at}
use Rattle.over_core.proofs.KeptByUps.{up_kept}
use Rattle.master_laws.specs.Waits.{new_rows, wanted_name, waiting_master, AChangeWaits}

-- ---- the rows of a new store are in order, and sound

names_sorted : IsStrictlySortedBy (slice_cmp nat_cmp) (keys_of new_rows.nodes)
unfolding IsStrictlySortedBy
names_sorted = ((refl, (refl, tt)), ((refl, tt), (tt, tt)))

sessions_sorted : IsStrictlySortedBy nat_cmp (keys_of new_rows.sessions)
unfolding IsStrictlySortedBy
sessions_sorted = tt

locks_sorted : IsStrictlySortedBy lock_order (keys_of new_rows.locks)
unfolding IsStrictlySortedBy
locks_sorted = tt

are_sound : sound standard.cell new_rows ≡ true
are_sound = refl

-- ---- what a session and a change are found to be

abbrev mine : Option (Session Reply)
mine = session_of waiting_master 1

abbrev the_first : List (Waiting Task) → Option (Waiting Task)
the_first [] = None
the_first (w ∷ []) = Some w
the_first (w ∷ v ∷ ws) = None

abbrev wanted : Option (Waiting Task)
wanted = the_first waiting_master.gate.waiting

that_is : {X : Type 0} (o : Option X) → is_some o ≡ true → (x : X) × (o ≡ Some x)
that_is (Some x) h = (x, refl)
that_is None h = cc

is_alone : (ws : List (Waiting Task)) (w : Waiting Task) → the_first ws ≡ Some w → ws ≡ w ∷ []
is_alone [] w h = cc
is_alone (x ∷ []) w h = let is : x ≡ w = cc in ap (λ (y : Waiting Task). y ∷ []) is
is_alone (x ∷ y ∷ ws) w h = cc

-- a test of what is found
tells : {X Y : Type 0} (o : Option X) (x : X) (f : X → Y) (none y : Y) → o ≡ Some x → option_map_or f o none ≡ y → f x ≡ y
tells {X} o x f none y is h = sym (ap (λ (p : Option X). option_map_or f p none) is) ∙ h

has_session : is_some mine ≡ true
unfolding take_step sweep_step
has_session = refl

has_change : is_some wanted ≡ true
unfolding take_step sweep_step
has_change = refl

none_acknowledged : option_map_or (λ (s : Session Reply). s.invalidations.acknowledged) mine 1 ≡ 0
unfolding take_step sweep_step
none_acknowledged = refl

lives : option_map_or (λ (s : Session Reply). s.live) mine false ≡ true
unfolding take_step sweep_step
lives = refl

until : option_map_or (λ (s : Session Reply). s.timeout) mine 0 ≡ 12000
unfolding take_step sweep_step
until = refl

is_touched : option_map_or (λ (w : Waiting Task). touches wanted_name w) wanted false ≡ true
unfolding take_step sweep_step
is_touched = refl

is_held : holds 1 wanted_name waiting_master.rights ≡ true
unfolding take_step sweep_step
is_held = refl

is_asked : asked_for 1 wanted_name waiting_master.rights ≡ Some 1
unfolding take_step sweep_step
is_asked = refl

is_quiet : quiet_at waiting_master 11999 ≡ true
unfolding take_step sweep_step
is_quiet = refl

it_ends : first_action (noted waiting_master 12000) ≡ actions.Expire 1
unfolding take_step sweep_step
it_ends = refl

it_goes_on : next_change (record waiting_master { rights = ended 1 endings.Expiry waiting_master.rights }) ≡ option_map (λ (w : Waiting Task). w.number) wanted
unfolding take_step sweep_step
it_goes_on = refl

below_one : (a : ℕ) → a ≡ 0 → a < 1
below_one a h = omega (arith, h)

is_later : (a : ℕ) → a ≡ 12000 → 11999 < a
is_later a h = omega (arith, h)

pub a_change_waits : AChangeWaits
a_change_waits =
    let session = that_is mine has_session in
    let change = that_is wanted has_change in
    record {
      came = record { cell = standard.cell; rows = new_rows; limits = no_limits; kept = up_kept standard.cell new_rows (terms_of standard) 0 are_sound sessions_sorted locks_sorted names_sorted; is_lease = omega arith; of_clients = refl; is = refl };
      change = change.0;
      alone = is_alone waiting_master.gate.waiting change.0 change.1;
      nothing = is_quiet;
      waits = record {
        name = wanted_name;
        number = 1;
        session = session.0;
        touched = tells wanted change.0 (λ (w : Waiting Task). touches wanted_name w) false true change.1 is_touched;
        held = is_held;
        asked = is_asked;
        found = session.1;
        unacknowledged = below_one session.0.invalidations.acknowledged (tells mine session.0 (λ (s : Session Reply). s.invalidations.acknowledged) 1 0 session.1 none_acknowledged);
        live = tells mine session.0 (λ (s : Session Reply). s.live) false true session.1 lives;
        later = is_later session.0.timeout (tells mine session.0 (λ (s : Session Reply). s.timeout) 0 12000 session.1 until);
      };
      ends = it_ends;
      goes_on = it_goes_on ∙ ap (λ (o : Option (Waiting Task)). option_map (λ (w : Waiting Task). w.number) o) change.1;
    }
