-- What a command comes to, from what its parts come to.
use Rattle.std.proofs.Common.{◌≡◌, inl, inr, ℕ, List, Option, None, Some, Result, Ok, Err, refl}
use Rattle.std.specs.Prelude.{IfOk}
use Rattle.sqlite_wal.specs.Recovery.{Image}
use Rattle.rows_cell.specs.Settings.{Settled}
use Rattle.rows_cell.specs.declared.records.StoreFault.{StoreFault}
use Rattle.cellctl.specs.Anew.{EndsRun, EndsAnyRun, EndsSomeRun}
use Rattle.threads.specs.Bounds.{IsStatus}
use Rattle.cellctl.specs.Exits.{IsExit, IsUnset}
use Rattle.cellctl.specs.Led.{Known}
use Rattle.cellctl.specs.Taken.{IsLease}
use Rattle.cellctl.specs.Tested.{ReportsRead, ReportsSome, EndsTest}

any_run : {P : Type 0} (settings : Settled) (held : Image) (path : Option P) (text before after : Known) (status : ℕ) → IsLease settings.lease → EndsRun settings held path text status before after → EndsAnyRun held text status before after
any_run settings held None text before after status lease p = inl (settings, lease, inl p)
any_run settings held (Some path) text before after status lease p = inl (settings, lease, inr p)

pub some_run : {P E : Type 0} (settings : Settled) (held : Image) (path : Option P) (text before after : Known) (r : Result ℕ E) → IsLease settings.lease → IfOk r (λ status. EndsRun settings held path text status before after)
    → IfOk r (λ status. EndsSomeRun held status before after)
some_run settings held path text before after (Ok status) lease p = (text, any_run settings held path text before after status lease p)
some_run settings held path text before after (Err e) lease p = tt

-- without settings or a script
pub no_run : (held : Image) (status : ℕ) (before : Known) → IsUnset status → EndsSomeRun held status before before
no_run held status before unset = (None, inr (unset, refl))

pub some_test : {E : Type 0} (cell : List ℕ) (before after : Known) (r : Result ℕ E) → IfOk r (λ status. ReportsSome cell status before after) → IfOk r (λ status. EndsTest status before after)
some_test cell before after (Ok status) p = inl (cell, p)
some_test cell before after (Err e) p = tt

pub some_report : {E : Type 0} (cell : List ℕ) (read : Result Image StoreFault) (before after : Known) (r : Result ℕ E) → IfOk r (λ status. ReportsRead cell read status before after) → IfOk r (λ status. ReportsSome cell status before after)
some_report cell read before after (Ok status) p = (read, p)
some_report cell read before after (Err e) p = tt

-- a run of threads ends as the program does
pub exit_of : (status : ℕ) → IsStatus status → IsExit status
exit_of status (inl done) = inr (inr (inr (inl done)))
exit_of status (inr (inl outside)) = inl outside
exit_of status (inr (inr refused)) = inr (inr (inl refused))
