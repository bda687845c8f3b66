use Rattle.std.proofs.Common.{◌≡◌, ℕ, List, Option, ◌∙◌, sym, ap, arith, [], take_all}
use Rattle.std.specs.List.{flat_map}
use Rattle.std.specs.Io.KnownBytes.{Appends}
use Rattle.std.proofs.KnownBytes.{Appends-nil}
use Rattle.jffs_tree.specs.Origin.{state_in}
use Rattle.jffs_text.specs.Added.{IsBegun}
use Rattle.jffs_text.specs.Dump.{below, extended_path}
use Rattle.jffs_text.proofs.Adding.{begun_here, begun_none, begun_whole, begun_as, added_as, one_more}
use Rattle.jffs_text.proofs.Told.{text_in, text_below, below_none, line_begun, deeper_begun, directory_told, file_begun, file_told, cut_back}
use Rattle.jffs_text.proofs.dumping.+dump_names.Goals as goal
use Rattle.jffs_text.proofs.dumping.+dump_names.Goals.{then-is_directory+in_ok-dump_directory+in_ok-dump_names, else-is_directory+in_ok-dump_file, After-push_name, In_ok-push_name}

-- what begins the text of the name at hand begins the whole
begins_here : (g : _) (t : ℕ) (c : After-push_name g t) (now : Option (List ℕ))
    → IsBegun (g.W.Write.contents c.loop-name.out) now (text_in c.args.tree.now c.args.levels c.args.path.now.items c.loop-name-item.result)
    → IsBegun (g.W.Write.contents c.args.out.now) now (below c.args.levels (state_in c.args.tree.now) c.args.path.now.items c.args.directory)
begins_here g t c now h =
    let text = text_in c.args.tree.now c.args.levels c.args.path.now.items in
    begun_as _ _ _ _ (text_below c.args.tree.now c.args.levels c.args.path.now.items c.args.directory _ _ (omega (arith, c.if-levels-eq0.false)) c.requires c.in_ok-names.ensures.all c.in_ok-names.ensures.ordered c.deref-name-items.ensures.value)
    (begun_here text c.deref-name-items.result.now c.loop-name.name-index c.loop-name-item.result (omega (arith, c.loop-name-test.true)) _ _ _ c.loop-name.invariant.0 (rw c.loop-name-item.is at h))

-- the path is that of the name at hand
named : (g : _) (t : ℕ) (c : In_ok-push_name g t) → c.push_name.new.path.items ≡ extended_path c.args.path.now.items c.loop-name-item.result.0
named g t c = c.in_ok-push_name.ensures ∙ ap (λ l. extended_path l c.loop-name-item.result.0) c.loop-name.invariant.1

pub returns-then-levels-eq0-clause-whole : goal.returns-then-levels-eq0-clause-whole
returns-then-levels-eq0-clause-whole g t c =
    let none : 0 ≡ c.args.levels = omega (arith, c.if-levels-eq0.true) in
    let s = state_in c.args.tree.now in
    let a = g.W.Write.contents c.args.out.now in
    added_as a a [] _ (sym (below_none s c.args.path.now.items c.args.directory) ∙ ap (λ n. below n s c.args.path.now.items c.args.directory) none) (Appends-nil a)

pub returns-in_err-push_name-clause-begun : goal.returns-in_err-push_name-clause-begun
returns-in_err-push_name-clause-begun g t c = begins_here g t (goal.at.returns-in_err-push_name-clause-begun g t c).After-push_name _ (begun_none _ _)

pub returns-in_err-dump_directory-clause-begun : goal.returns-in_err-dump_directory-clause-begun
returns-in_err-dump_directory-clause-begun g t c =
    let here = goal.at.returns-in_err-dump_directory-clause-begun g t c in
    begins_here g t here.After-push_name _
    (line_begun c.args.tree.now c.args.levels _ c.loop-name-item.result _ (named g t here.In_ok-push_name) _ _ (rw c.is_directory.ensures at c.if-is_directory.true) c.dump_directory.ensures.begun)

pub returns-in_err-dump_names-clause-begun : goal.returns-in_err-dump_names-clause-begun
returns-in_err-dump_names-clause-begun g t c =
    let here = goal.at.returns-in_err-dump_names-clause-begun g t c in
    begins_here g t here.After-push_name _
    (deeper_begun c.args.tree.now c.args.levels _ c.loop-name-item.result _ (named g t here.In_ok-push_name) _ _ _ (rw c.is_directory.ensures at c.if-is_directory.true)
    c.in_ok-dump_directory.ensures.whole c.dump_names.ensures.begun)

pub returns-in_err-dump_file-clause-begun : goal.returns-in_err-dump_file-clause-begun
returns-in_err-dump_file-clause-begun g t c =
    let here = goal.at.returns-in_err-dump_file-clause-begun g t c in
    begins_here g t here.After-push_name _
    (file_begun c.args.tree.now c.args.levels _ c.loop-name-item.result _ (named g t here.In_ok-push_name) _ _ (rw c.is_directory.ensures at c.if-is_directory.false) c.dump_file.ensures.begun)

pub loop-name-preserved : goal.loop-name-preserved
loop-name-preserved g t c =
    let text = text_in c.args.tree.now c.args.levels c.args.path.now.items in
    let name = c.loop-name-item.result in
    let path_is = named g t (goal.at.loop-name-preserved g t c).In_ok-push_name in
    let now = g.W.Write.contents c.if-is_directory.out in
    let told : Appends (g.W.Write.contents c.loop-name.out) now (text name) × (c.if-is_directory.path.items ≡ c.push_name.new.path.items) = elim c.if-is_directory.branch [
      | then-is_directory+in_ok-dump_directory+in_ok-dump_names w ↦ (
        rw w.out-is (directory_told c.args.tree.now c.args.levels _ name _ path_is _ _ _ (rw c.is_directory.ensures at w.if-is_directory.true) w.in_ok-dump_directory.ensures.whole w.in_ok-dump_names.ensures.whole),
        ap (λ p. p.items) w.path-is ∙ w.in_ok-dump_names.ensures.path,
      )
      | else-is_directory+in_ok-dump_file w ↦ (
        rw w.out-is (file_told c.args.tree.now c.args.levels _ name _ path_is _ _ (rw c.is_directory.ensures at w.if-is_directory.false) w.in_ok-dump_file.ensures.whole),
        ap (λ p. p.items) w.path-is,
      )
    ] in (
      one_more text c.deref-name-items.result.now c.loop-name.name-index name (omega (arith, c.loop-name-test.true)) _ _ now c.loop-name.invariant.0 (rw c.loop-name-item.is at told.0),
      rw c.truncate.ensures.items (cut_back _ _ _ name.0 (c.len-above.ensures ∙ c.loop-name.path.ok.0) (told.1 ∙ c.in_ok-push_name.ensures) ∙ c.loop-name.invariant.1),
    )

pub returns-clause-whole : goal.returns-clause-whole
returns-clause-whole g t c =
    let text = text_in c.args.tree.now c.args.levels c.args.path.now.items in
    added_as _ _ _ _ (ap (λ l. flat_map text l) (take_all c.loop-name.name-index c.deref-name-items.result.now (omega (arith, c.loop-name-test.false)))
    ∙ text_below c.args.tree.now c.args.levels c.args.path.now.items c.args.directory _ _ (omega (arith, c.if-levels-eq0.false)) c.requires c.in_ok-names.ensures.all c.in_ok-names.ensures.ordered c.deref-name-items.ensures.value)
    c.loop-name.invariant.0

pub returns-clause-begun : goal.returns-clause-begun
returns-clause-begun g t c = begun_whole _ _ _ (returns-clause-whole g t c)
