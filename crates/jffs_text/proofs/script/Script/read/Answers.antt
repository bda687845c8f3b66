-- The text has more bytes than its front.
use Rattle.std.proofs.Common.{sym, arith}
use Rattle.std.proofs.lemmas.List.{length-take-le}
use Rattle.jffs_text.proofs.script.Script.read.Goals as goal

pub slice_bounds-endless-end : goal.slice_bounds-endless-end
slice_bounds-endless-end c = sym (length-take-le _ c.args.text.now (omega arith))
