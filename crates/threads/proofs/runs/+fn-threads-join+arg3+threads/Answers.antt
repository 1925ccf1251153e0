use mathlib.Core.List.{[], ◌∷◌}
use mir.Syntax.{named, of_param}
use denote.Builtin.{u64}
use denote.Exit.{no}
use denote.Ref.{ShrRef, MutRef}
use denote.Param.{param}
use denote.Param.Send.{IsSend, IsSync, Quiet-if, struct_send, shr_send, mut_send, sendable}
use Rattle.std.proofs.alloc.Global.TheSendSync as heap
use Rattle.std.specs.contracts.alloc.Global as Heap
use Rattle.watch_cell.specs.contracts.locked.Pass as Pass
use Rattle.watch_cell.specs.contracts.watches.Watch as Watch
use Rattle.watch_cell.proofs.locked.Pass.TheSendSync as pass
use Rattle.threads.specs.contracts.letters.Letters as Letters
use Rattle.threads.proofs.letters.Letters.TheSendSync as letters
use Rattle.threads.proofs.Crossing.{watch_sync}
use Rattle.threads.proofs.runs.+fn-threads-join+arg3+threads.Goals as goal

-- what the closure captures, one by one: the handle, the allocator, the watch, the pass, the letters, the rounds and the turn
pub join-one-requires-send-F : goal.join-one-requires-send-F
join-one-requires-send-F g t c κs within =
    let sent : IsSend (param 0 g.row.R) = search in let waits : IsSync (param 6 g.row.W) = c.requires-raw.1.1.1.1.1.1.1.1.1.1.1.1.1.1.1.1.1.1.1.1.0 in let turns : IsSync (param 7 g.row.T) = c.requires-raw.1.1.1.1.1.1.1.1.1.1.1.1.1.1.1.1.1.1.1.1.1 in
    let word : IsSync u64 = search sendable in
    let I = param 2 g.row.I in let A = param 3 g.row.A in let E = param 4 g.row.E in let C = param 5 g.row.C in
    let watch = Watch.the_row (param 0 g.row.R) (param 1 g.row.O) I A E C g.R.Records g.O.Opening g.I.Ledger g.A.Ledger g.E.Ledger g.C.Ledger in
    let given = Pass.the_row I A E C g.I.Ledger g.A.Ledger g.E.Ledger g.C.Ledger in
    let watch_is = watch_sync (param 0 g.row.R) (param 1 g.row.O) I A E C g.R.Records g.O.Opening g.I.Ledger g.A.Ledger g.E.Ledger g.C.Ledger sent in
    let given_is = pass.the_send I A E C g.I.Ledger g.A.Ledger g.E.Ledger g.C.Ledger in
    let all = struct_send
    (record {
      name = [];
      args = [];
      types = [];
      fields = ShrRef (named 0) κs.1.1.1.1.1.1.0 (param 6 g.row.W) ∷ ShrRef (named 0) κs.1.1.1.1.1.1.1.0 Heap.the_row ∷ ShrRef (named 0) κs.1.1.1.1.1.1.1.1.0 watch
          ∷ MutRef (named 0) κs.1.1.1.1.1.1.1.1.1.0 given ∷ ShrRef (named 0) κs.1.1.1.1.1.1.1.1.1.1.0 Letters.the_row
          ∷ ShrRef (named 0) κs.1.1.1.1.1.1.1.1.1.1.1.0 u64 ∷ ShrRef (named 0) κs.1.1.1.1.1.1.1.1.1.1.1.1.0 (param 7 g.row.T) ∷ [];
    }) (
      shr_send _ _ (param 6 g.row.W) waits,
      (
        shr_send _ _ Heap.the_row heap.the_sync,
        (
          shr_send _ _ watch watch_is,
          (
            mut_send _ _ given given_is,
            (shr_send _ _ Letters.the_row letters.the_sync, (shr_send _ _ u64 word, (shr_send _ _ (param 7 g.row.T) turns, tt))),
          ),
        ),
      ),
    ) in
    record {
      owned = λ x vs. all.owned (x.0, (x.1, (x.2, (x.3, (x.4, (x.5, (x.6, tt))))))) vs;
      leaving = λ k. Quiet-if (k (of_param 1)) _ _ (λ x w. all.leaving no (x.0, (x.1, (x.2, (x.3, (x.4, (x.5, (x.6, tt))))))) w) (λ x w. tt);
    }
