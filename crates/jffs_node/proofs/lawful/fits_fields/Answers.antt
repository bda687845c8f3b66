use Rattle.std.proofs.Common.{ℕ, ◌<◌, ◌^◌, get_or, length, List, arith, rules, ap, sym, ltb, ◌∙◌}
use Rattle.std.specs.Option.{unwrap_or}
use Rattle.std.specs.List.{list_all}
use Rattle.std.proofs.lemmas.Bool.{lt-ltb}
use Rattle.jffs_node.proofs.Fitting.{small_bytes, same_limit, all_but}
use Rattle.jffs_node.proofs.lawful.fits_fields.Goals as goal

pub returns : goal.returns
returns c =
    let n = c.args.node.now in
    let inode : n.inode < 2 ^ 32 = omega arith in
    let parent : n.parent < 2 ^ 32 = omega arith in
    let version : n.version < 2 ^ 32 = omega arith in
    let offset : n.offset < 2 ^ 32 = omega arith in
    let rsize : n.rsize < 2 ^ 32 = omega arith in
    let writer : n.writer < 2 ^ 16 = omega arith in
    let seq : n.seq < 2 ^ 32 = omega arith in
    let size : unwrap_or n.size 0 < 2 ^ 32 = omega arith in
    let byte : (k : ℕ) → get_or c.as_slice-held.result.now k 0 < 256 = λ k. first_of (grind arith, search rules) in
    let bytes = small_bytes c.as_slice-held.result.now byte in
    same_limit (length c.as_slice-held.result.now)
    ∙ ap (λ (x : List ℕ). ltb (length x) (2 ^ 32)) c.as_slice-held.ensures
    ∙ all_but (lt-ltb n.inode (2 ^ 32) inode) (lt-ltb n.parent (2 ^ 32) parent) (lt-ltb n.version (2 ^ 32) version) (lt-ltb n.offset (2 ^ 32) offset)
    (lt-ltb n.rsize (2 ^ 32) rsize) (lt-ltb n.writer (2 ^ 16) writer) (lt-ltb n.seq (2 ^ 32) seq) _ (lt-ltb (unwrap_or n.size 0) (2 ^ 32) size)
    (ap (λ (x : List ℕ). list_all (λ b. ltb b 256) x) (sym c.as_slice-held.ensures) ∙ bytes)
