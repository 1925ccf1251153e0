use Rattle.hosting.specs.Replies.{reply_told, mark_told, all_told}
use Rattle.hosting.proofs.Streaming.{puts_behind, all_put}
use Rattle.hosting.proofs.outputs.write_reply.Goals as goal

pub returns : goal.returns
returns c =
    all_put (all_told c.args.reply.now c.args.deadline) _ _ c.new-out.ensures.items (puts_behind (reply_told c.args.reply.now) (mark_told c.args.deadline) _ _ _ c.in_ok-put_reply.ensures c.in_ok-put_mark.ensures)
