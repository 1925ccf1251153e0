use Rattle.std.specs.Prelude.{string_bytes}
use Rattle.cellctl.proofs.Drawn.{says_secret}
use Rattle.cellctl.proofs.fresh.fresh_text.Goals as goal

pub returns : goal.returns
returns c = says_secret c.in_ok-settings.settings c.args.secret.now (string_bytes c.in_ok-text.text) c.as_str.result.now c.is_secret_of.result c.as_str.ensures.value c.in_ok-settings.ensures c.is_secret_of.ensures c.if-not-is_secret_of.false
