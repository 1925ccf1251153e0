-- What a client answers out of its cache.
use Rattle.std.specs.Prelude.{ℕ, ◌&&◌, true, is_none, Option, Some, None, if◌then◌else◌}
use Rattle.std.specs.Option.{option_map}
use Rattle.cache_core.specs.Caches.{answer}
use Rattle.cache_core.specs.Kept.{serving}
use Rattle.node_core.specs.declared.refusals.Fault.TheVariants as faults
use Rattle.node_core.specs.declared.answers.Answer.{Answer}
use Rattle.node_core.specs.declared.answers.Answer.TheVariants as answers
use Rattle.node_core.specs.declared.lines.Line.TheVariants as lines
use Rattle.node_core.specs.declared.views.View.{View}
use Rattle.tags_cell.specs.declared.messages.calls.Open.{Open}
use Rattle.tags_cell.specs.declared.messages.outs.NewHandle.{NewHandle}
use Rattle.client_core.specs.declared.parts.asks.NodeCall.{NodeCall}
use Rattle.client_core.specs.declared.parts.handles.ClientHandle.{ClientHandle}
use Rattle.client_core.specs.Opens.{is_plain, only_reads, kept_handle, cached_answer}
use Rattle.client_core.specs.declared.plans.AskPlan.{AskPlan}
use Rattle.client_core.specs.declared.plans.AskPlan.TheVariants as plans
use Rattle.client_core.specs.State.{ClientState}

-- ---- a read, and a ReadDir

abbrev pub serve_answer : ClientState → ClientHandle → Option View → Answer → AskPlan
serve_answer s handle entry given = plans.Serve (lines.Served s.number handle.name entry) given

-- by what is cached under the handle's name
abbrev pub cached_served : ClientState → ClientHandle → NodeCall → Option (Option View) → Option AskPlan
cached_served s handle call None = None
cached_served s handle call (Some entry) = option_map (serve_answer s handle entry) (cached_answer handle call entry)

-- exactly if something is cached under the handle's name that answers the call, and the handle may read and has no sequencer
abbrev pub read_served : ClientState → ℕ → ClientHandle → NodeCall → Option AskPlan
read_served s moment handle call =
    if handle.mode.read && is_none handle.sequencer then cached_served s handle call (answer s.cache moment handle.name) else None

-- ---- an Open

abbrev pub serve_absence : ClientState → Open → AskPlan
serve_absence s opening = plans.Serve (lines.Served s.number opening.name None) (answers.Refused faults.NotFound)

abbrev pub share : ClientState → Open → View → NewHandle → AskPlan
share s opening view handle = plans.Share (lines.Served s.number opening.name (Some view)) (kept_handle handle opening true)

-- where it is to read alone, without a lock-delay, and a handle on the cached instance is kept
abbrev pub handle_shared : ClientState → Open → View → Option AskPlan
handle_shared s opening view = if only_reads opening then option_map (share s opening view) (serving s.kept opening.name view.node.instance) else None

abbrev pub entry_served : ClientState → Open → Option (Option View) → Option AskPlan
entry_served s opening None = None
entry_served s opening (Some None) = Some (serve_absence s opening)
entry_served s opening (Some (Some view)) = handle_shared s opening view

abbrev pub open_served : ClientState → ℕ → Open → Option AskPlan
open_served s moment opening = if is_plain opening then entry_served s opening (answer s.cache moment opening.name) else None
