-- A step by bytes is the step by what they are.
use Rattle.std.proofs.Common.{◌≡◌, ◌≢◌, ℕ, Option, Result, Ok, Err, refl, sym, ap, subst}
use Rattle.tags_cell.specs.declared.messages.requests.Request.{Request}
use Rattle.tags_cell.specs.declared.messages.outs.Out.{Out}
use Rattle.client_core.specs.declared.parts.asks.Ask.{Ask}
use Rattle.codec.specs.declared.faults.WireFault.{WireFault}
use Rattle.codec.specs.declared.faults.WireFault.TheVariants as wire
use Rattle.client_exports.specs.declared.statuses.Status.{Status}
use Rattle.client_exports.specs.declared.statuses.Status.TheVariants as statuses
use Rattle.client_exports.specs.States.{HeldState}
use Rattle.client_exports.specs.Wanted.{request_ask}
use Rattle.client_exports.specs.Steps.{ask_wanted, ask_read, give_read, give_held, Makes}

pub asked_by : (old new : HeldState) (status : Status) (now : ℕ) (found : Result Request WireFault) (message : Request) (ask : Option Ask)
    → found ≡ Ok message → ask ≡ request_ask message → Makes old new status (ask_wanted old now ask) → Makes old new status (ask_read old now found)
asked_by old new status now found message ask read wants h =
    subst (λ r. Makes old new status (ask_read old now r)) (sym read) (subst (λ a. Makes old new status (ask_wanted old now a)) wants h)

pub given_by : (old new : HeldState) (status : Status) (now : ℕ) (found : Result Out WireFault) (out : Out)
    → found ≡ Ok out → Makes old new status (give_held old now out) → Makes old new status (give_read old now found)
given_by old new status now found out read h = subst (λ r. Makes old new status (give_read old now r)) (sym read) h

pub bad_ask : (old : HeldState) (now : ℕ) (found : Result Request WireFault) (fault : WireFault) → (fault ≢ wire.NoMemory → found ≡ Err fault) → Makes old old (statuses.Bad fault) (ask_read old now found)
bad_ask old now found fault wrong = (λ other. ap (ask_read old now) (wrong other), λ want. refl)

pub bad_give : (old : HeldState) (now : ℕ) (found : Result Out WireFault) (fault : WireFault) → (fault ≢ wire.NoMemory → found ≡ Err fault) → Makes old old (statuses.Bad fault) (give_read old now found)
bad_give old now found fault wrong = (λ other. ap (give_read old now) (wrong other), λ want. refl)
