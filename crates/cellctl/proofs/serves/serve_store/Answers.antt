use Rattle.rows_cell.specs.Settings.{terms_of}
use Rattle.hosting.specs.declared.pieces.GroupTerms.{GroupTerms}
use Rattle.std.proofs.Common.{refl}
use Rattle.sqlite.specs.Files.{file_state}
use Rattle.hosting.specs.Seats.{hosted, without_master}
use Rattle.cellctl.specs.Led.{FramesLead}
use Rattle.cellctl.proofs.Overs.{done_over, frames_led, frames_led_surely}
use Rattle.cellctl.proofs.Lefts.{left_open, untaken_left}
use Rattle.cellctl.proofs.serves.serve_store.Goals as goal

pub returns-in-Ok-close-clause-closed : goal.returns-in-Ok-close-clause-closed
returns-in-Ok-close-clause-closed g c clean =
    let terms : GroupTerms = record { master = terms_of c.args.chosen.now.settings; limits = c.args.frames.limits } in
    let text = g.I.Read.remaining c.args.frames.reader in
    let before = g.W.Write.contents c.args.writer.now in
    let after = g.W.Write.contents c.serve_seat-seat.new.writer in
    let status = c.serve_seat-seat.result.1 in
    done_over g.D.Disk c.args.chosen.now.settings (file_state c.args.conn) c.in-Ok-close.files (FramesLead terms text before after status) c.in-Ok.records c.close.result
    c.in-Ok.ensures.ok
    (frames_led_surely terms text before after status c.in-Ok.records c.close.result (without_master c.in-Ok.records) (hosted (λ s. s) c.serve_seat-seat.result.0) refl c.close.ensures c.serve_seat-seat.ensures.served)
    (c.in-Ok-close.ensures.closed clean)

pub returns-in-Ok-close-clause-served : goal.returns-in-Ok-close-clause-served
returns-in-Ok-close-clause-served g c = (
  c.in-Ok.records,
  c.close.result,
  c.in-Ok.ensures.ok,
  frames_led (record { master = terms_of c.args.chosen.now.settings; limits = c.args.frames.limits }) (g.I.Read.remaining c.args.frames.reader) (g.W.Write.contents c.args.writer.now) (g.W.Write.contents c.serve_seat-seat.new.writer) c.serve_seat-seat.result.1 c.in-Ok.records c.close.result
      (without_master c.in-Ok.records) (hosted (λ s. s) c.serve_seat-seat.result.0) refl c.close.ensures c.serve_seat-seat.ensures.served,
)

pub returns-in-Err-close-clause-left : goal.returns-in-Err-close-clause-left
returns-in-Err-close-clause-left g c =
    let terms : GroupTerms = record { master = terms_of c.args.chosen.now.settings; limits = c.args.frames.limits } in
    let text = g.I.Read.remaining c.args.frames.reader in
    let before = g.W.Write.contents c.args.writer.now in
    let after = g.W.Write.contents c.serve_seat-seat.new.writer in
    let status = c.serve_seat-seat.result.1 in
    left_open c.args.chosen.now.settings (file_state c.args.conn) (FramesLead terms text before after status) c.in-Ok.records c.close.result c.in-Err-close.store
    c.in-Ok.ensures.ok
    (λ sure. (frames_led_surely terms text before after status c.in-Ok.records c.close.result (without_master c.in-Ok.records) (hosted (λ s. s) c.serve_seat-seat.result.0) refl c.close.ensures c.serve_seat-seat.ensures.served sure).0)
    (frames_led terms text before after status c.in-Ok.records c.close.result (without_master c.in-Ok.records) (hosted (λ s. s) c.serve_seat-seat.result.0) refl c.close.ensures c.serve_seat-seat.ensures.served)
    c.in-Err-close.ensures.sure c.in-Err-close.ensures.refused

pub returns-in-Err-clause-left : goal.returns-in-Err-clause-left
returns-in-Err-clause-left g c =
    let terms : GroupTerms = record { master = terms_of c.args.chosen.now.settings; limits = c.args.frames.limits } in
    let before = g.W.Write.contents c.args.writer.now in
    untaken_left c.args.chosen.now.settings c.args.conn (FramesLead terms (g.I.Read.remaining c.args.frames.reader) before before) before c.in-Err.unclosed c.in-Err.ensures.err
