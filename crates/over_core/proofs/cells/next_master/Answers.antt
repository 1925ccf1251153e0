use Rattle.std.proofs.Common.{◌≡◌, ◌<◌, ℕ, false, Ok, rules, sym, ap, inr}
use Rattle.over_core.proofs.KeptByUps.{up_stands}
use Rattle.node_core.specs.declared.refusals.Fault.{Fault}
use Rattle.rows_cell.specs.declared.settings.MasterTerms.{MasterTerms}
use Rattle.rows_cell.specs.declared.tables.Rows.{Rows}
use Rattle.rows_cell.specs.Stores.{Store, IsRefused}
use Rattle.over_core.specs.Up.{up_edits, up_step, up_commit, next_epoch}
use Rattle.master_state.specs.State.{MasterState, master_of}
use Rattle.cell_core.specs.Step.{is_past_end}
use Rattle.over_core.proofs.cells.next_master.Goals as goal

-- a moment below the last is early
before_end : (now : ℕ) → now < 9007199254740992 → is_past_end now ≡ false
before_end now h = search rules

-- where the next epoch's rows are sound, what a coming up commits is that epoch
refused : (fault : Fault) (read new : Store) (rows : Rows) (terms : MasterTerms) (now : ℕ) → is_past_end now ≡ false → next_epoch read.cell read.rows ≡ Ok rows → IsRefused fault (up_edits read.rows) read new → IsRefused fault (up_commit (up_step read.cell read.rows terms now) read.rows) read new
refused fault read new rows terms now early ok h = rw (early, ok) h

-- and that master comes up
came : (read : Store) (rows : Rows) (terms : MasterTerms) (now : ℕ) (master : MasterState) → is_past_end now ≡ false → next_epoch read.cell read.rows ≡ Ok rows → master ≡ master_of rows terms now → up_step read.cell read.rows terms now ≡ Ok master
came read rows terms now master early ok is = rw (early, ok) (ap Ok (sym is))

pub returns-then-now-ge-MOMENT_LIMIT-clause-fault : goal.returns-then-now-ge-MOMENT_LIMIT-clause-fault
returns-then-now-ge-MOMENT_LIMIT-clause-fault g c = search rules

pub commit_epoch-requires : goal.commit_epoch-requires
commit_epoch-requires g c = search rules

pub returns-in-Ok-clause-kept : goal.returns-in-Ok-clause-kept
returns-in-Ok-clause-kept g c =
    up_stands (g.R.Records.store c.next_rows.new.records) (g.R.Records.store c.commit_epoch.new.records) c.in_ok-rows.rows c.in_ok-master.master c.args.terms c.args.now c.in_ok-rows.ensures.sound c.in_ok-rows.ensures.next c.in_ok-rows.ensures.sessions c.in_ok-rows.ensures.locks c.in_ok-rows.ensures.names c.in_ok-master.ensures c.in-Ok.ensures

pub returns-in-Ok-clause-ok : goal.returns-in-Ok-clause-ok
returns-in-Ok-clause-ok g c =
    let early : is_past_end c.args.now ≡ false = before_end c.args.now c.if-now-ge-MOMENT_LIMIT.false in
    record {
      read = g.R.Records.store c.next_rows.new.records;
      was_read = search rules;
      came = came (g.R.Records.store c.next_rows.new.records) c.in_ok-rows.rows c.args.terms c.args.now c.in_ok-master.master early c.in_ok-rows.ensures.ok c.in_ok-master.ensures;
      committed = search rules;
    }

pub returns-in-Err-clause-fault : goal.returns-in-Err-clause-fault
returns-in-Err-clause-fault g c =
    let early : is_past_end c.args.now ≡ false = before_end c.args.now c.if-now-ge-MOMENT_LIMIT.false in
    let no : IsRefused c.in-Err.fault (up_edits (g.R.Records.store c.next_rows.new.records).rows) (g.R.Records.store c.next_rows.new.records) (g.R.Records.store c.commit_epoch.new.records) = search rules in
    inr (
      early,
      inr (record {
        read = g.R.Records.store c.next_rows.new.records;
        was_read = search rules;
        why = inr (refused c.in-Err.fault (g.R.Records.store c.next_rows.new.records) (g.R.Records.store c.commit_epoch.new.records) c.in_ok-rows.rows c.args.terms c.args.now early c.in_ok-rows.ensures.ok no);
      }),
    )
