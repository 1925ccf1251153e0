use Rattle.std.proofs.Common.{◌≡◌, List, [], ◌∷◌, ◌++◌, subst, sym, ap, ◌∙◌}
use Rattle.std.specs.Prelude.{OnOk, IfErr}
use Rattle.rows_cell.specs.declared.tables.Edit.{Edit}
use Rattle.hosting.specs.Pieces.{AreSound, CommitsEach, IsCutShort, all_pieces}
use Rattle.hosting.proofs.PieceLaws.{cut_ends, cut_front, ends_each, sound_after, sound_front}
use Rattle.hosting.proofs.pieces.Pieces.commit.Goals as goal

pub commit_each-requires : goal.commit_each-requires
commit_each-requires g c =
    let store = g.R.Records.store c.args.records.now in
    let P : List (List Edit) → Type 0 = λ u. AreSound store.cell store.rows u in
    subst P (sym c.as_slice.ensures.value) (sound_front store.cell store.rows c.self.inside.full.items c.self.inside.last (subst P (ap all_pieces (sym c.self.view_is)) c.requires))

pub commit_one-requires : goal.commit_one-requires
commit_one-requires g c =
    let store = g.R.Records.store c.args.records.now in
    let P : List (List Edit) → Type 0 = λ u. AreSound store.cell store.rows u in
    let parted : all_pieces c.args.self ≡ c.as_slice.result.now ++ c.self.inside.last ∷ [] =
    ap all_pieces (sym c.self.view_is) ∙ ap (λ (u : List (List Edit)). u ++ c.self.inside.last ∷ []) (sym c.as_slice.ensures.value) in
    (sound_after c.as_slice.result.now (c.self.inside.last ∷ []) store (g.R.Records.store c.commit_each.new.records) c.in-Ok.ensures.ok (subst P parted c.requires)).0

pub returns-in-Ok-clause-ok : goal.returns-in-Ok-clause-ok
returns-in-Ok-clause-ok g c =
    let store = g.R.Records.store c.args.records.now in
    let new = g.R.Records.store c.commit_one.new.records in
    let P : List (List Edit) → Type 0 = λ u. OnOk c.commit_one.result (CommitsEach u store new) in
    let parted : c.as_slice.result.now ++ c.self.inside.last ∷ [] ≡ all_pieces c.args.self =
    ap (λ (u : List (List Edit)). u ++ c.self.inside.last ∷ []) c.as_slice.ensures.value ∙ ap all_pieces c.self.view_is in
    subst P parted (ends_each c.commit_one.result c.as_slice.result.now c.self.inside.last store (g.R.Records.store c.commit_each.new.records) new c.in-Ok.ensures.ok c.commit_one.ensures.ok)

pub returns-in-Ok-clause-err : goal.returns-in-Ok-clause-err
returns-in-Ok-clause-err g c =
    let store = g.R.Records.store c.args.records.now in
    let new = g.R.Records.store c.commit_one.new.records in
    let P : List (List Edit) → Type 0 = λ u. IfErr c.commit_one.result (λ e. IsCutShort e u store new) in
    let parted : c.as_slice.result.now ++ c.self.inside.last ∷ [] ≡ all_pieces c.args.self =
    ap (λ (u : List (List Edit)). u ++ c.self.inside.last ∷ []) c.as_slice.ensures.value ∙ ap all_pieces c.self.view_is in
    subst P parted (cut_ends c.commit_one.result c.as_slice.result.now c.self.inside.last store (g.R.Records.store c.commit_each.new.records) new c.in-Ok.ensures.ok c.commit_one.ensures.err)

pub returns-clause-err : goal.returns-clause-err
returns-clause-err g c =
    let store = g.R.Records.store c.args.records.now in
    let new = g.R.Records.store c.commit_each.new.records in
    let P : List (List Edit) → Type 0 = λ u. IsCutShort c.in-Err.fault u store new in
    let parted : c.as_slice.result.now ++ c.self.inside.last ∷ [] ≡ all_pieces c.args.self =
    ap (λ (u : List (List Edit)). u ++ c.self.inside.last ∷ []) c.as_slice.ensures.value ∙ ap all_pieces c.self.view_is in
    subst P parted (cut_front c.in-Err.fault c.as_slice.result.now c.self.inside.last store new c.in-Err.ensures.err)
