use Rattle.std.proofs.Common.{◌≡◌, ℕ, List, ◌++◌, length, ◌∙◌, ap, Option}
use Rattle.std.specs.Prelude.{codes}
use Rattle.std.specs.Option.{unwrap_or}
use Rattle.std.specs.Io.KnownBytes.{Appends}
use Rattle.std.proofs.KnownBytes.{Appends-trans}
use Rattle.jffs_tree.specs.State.{at}
use Rattle.jffs_inodes.specs.Held.{bytes_of}
use Rattle.jffs_inodes.specs.Inodes.{Tree}
use Rattle.jffs_tree.specs.Origin.{state_in}
use Rattle.jffs_tree.specs.Look.{bytes_in}
use Rattle.jffs_text.specs.Dump.{line_end, size_text, shown_bytes}
use Rattle.jffs_text.proofs.Adding.{begun_more, begun_then, begun_whole}
use Rattle.jffs_tree.proofs.trees.Looked.{bytes_told}
use Rattle.jffs_text.proofs.Told.{size_text_told}
use Rattle.jffs_text.proofs.dumping.dump_file.Goals as goal
use Rattle.jffs_text.proofs.dumping.dump_file.Goals.{After-put-3}

-- the bytes that a file's line shows
abbrev shown_in : Tree → ℕ → List ℕ
shown_in tree inode = bytes_of (at (state_in tree) inode)

-- what stands before them in the line
abbrev head : List ℕ → List ℕ → List ℕ
head path bytes = codes "f " ++ path ++ size_text (length bytes)

-- the size that is written is that of the file's bytes
size_is : (g : _) (c : After-put-3 g) → c.as_bytes.result.now ≡ size_text (length (shown_in c.args.tree.now c.args.inode))
size_is g c =
    c.as_bytes.ensures.value ∙ c.in_ok-size_text.ensures.ok ∙ ap size_text (c.unwrap_or-size.ensures ∙ ap (λ o. unwrap_or o 0) c.size.ensures)
    ∙ size_text_told c.args.tree.now c.args.inode c.requires

-- the line is written as far as its path
path_put : (g : _) (c : After-put-3 g)
    → Appends (g.W.Write.contents c.args.out.now) (g.W.Write.contents c.put-2.new.out) (codes "f " ++ c.args.path.now.items)
path_put g c = Appends-trans _ _ _ _ _ c.in_ok-put.ensures.whole (rw c.deref.ensures.value at c.in_ok-put-2.ensures.whole)

-- as far as its size, where this was written after the path
size_put : (g : _) (c : After-put-3 g) (b : Option (List ℕ)) → Appends (g.W.Write.contents c.put-2.new.out) b c.as_bytes.result.now
    → Appends (g.W.Write.contents c.args.out.now) b (head c.args.path.now.items (shown_in c.args.tree.now c.args.inode))
size_put g c b sized = Appends-trans _ _ _ _ _ (path_put g c) (rw (size_is g c) at sized)

-- as far as its bytes, where these were written after the size
bytes_put : (g : _) (c : After-put-3 g) (a b : Option (List ℕ)) → Appends (g.W.Write.contents c.put-2.new.out) a c.as_bytes.result.now
    → Appends a b (shown_bytes (bytes_in c.args.tree.now c.args.inode))
    → Appends (g.W.Write.contents c.args.out.now) b
    (head c.args.path.now.items (shown_in c.args.tree.now c.args.inode) ++ shown_bytes (shown_in c.args.tree.now c.args.inode))
bytes_put g c a b sized shown = Appends-trans _ _ _ _ _ (size_put g c a sized) (rw (bytes_told c.args.tree.now c.args.inode) at shown)

pub returns-in_err-put-clause-begun : goal.returns-in_err-put-clause-begun
returns-in_err-put-clause-begun g c =
    let bytes = shown_in c.args.tree.now c.args.inode in
    begun_more _ _ _ line_end (begun_more _ _ _ (shown_bytes bytes) (begun_more _ _ _ (size_text (length bytes)) (begun_more _ _ _ c.args.path.now.items c.put.ensures.begun)))

pub returns-in_err-put-2-clause-begun : goal.returns-in_err-put-2-clause-begun
returns-in_err-put-2-clause-begun g c =
    let bytes = shown_in c.args.tree.now c.args.inode in
    begun_more _ _ _ line_end (begun_more _ _ _ (shown_bytes bytes) (begun_more _ _ _ (size_text (length bytes)) (begun_then _ _ _ _ _ c.in_ok-put.ensures.whole (rw c.deref.ensures.value at c.put-2.ensures.begun))))

pub returns-in_err-put-3-clause-begun : goal.returns-in_err-put-3-clause-begun
returns-in_err-put-3-clause-begun g c =
    let here = (goal.at.returns-in_err-put-3-clause-begun g c).After-put-3 in
    begun_more _ _ _ line_end (begun_more _ _ _ (shown_bytes (shown_in c.args.tree.now c.args.inode)) (begun_then _ _ _ _ _ (path_put g here) (rw (size_is g here) at c.put-3.ensures.begun)))

pub returns-in_err-dump_bytes-clause-begun : goal.returns-in_err-dump_bytes-clause-begun
returns-in_err-dump_bytes-clause-begun g c =
    let here = (goal.at.returns-in_err-dump_bytes-clause-begun g c).After-put-3 in
    begun_more _ _ _ line_end (begun_then _ _ _ _ _ (size_put g here _ c.in_ok-put-3.ensures.whole) (rw (bytes_told c.args.tree.now c.args.inode) at c.dump_bytes.ensures.begun))

pub returns-in_err-put-4-clause-begun : goal.returns-in_err-put-4-clause-begun
returns-in_err-put-4-clause-begun g c =
    let here = (goal.at.returns-in_err-put-4-clause-begun g c).After-put-3 in
    begun_then _ _ _ _ _ (bytes_put g here _ _ c.in_ok-put-3.ensures.whole c.in_ok-dump_bytes.ensures.whole) c.put-4.ensures.begun

pub returns-clause-whole : goal.returns-clause-whole
returns-clause-whole g c =
    let here = (goal.at.returns-clause-whole g c).After-put-3 in
    Appends-trans _ _ _ _ _ (bytes_put g here _ _ c.in_ok-put-3.ensures.whole c.in_ok-dump_bytes.ensures.whole) c.in_ok-put-4.ensures.whole

pub returns-clause-begun : goal.returns-clause-begun
returns-clause-begun g c = begun_whole _ _ _ (returns-clause-whole g c)
