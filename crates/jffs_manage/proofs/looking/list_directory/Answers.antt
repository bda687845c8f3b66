-- The lines of a directory, one after another.
use Rattle.std.proofs.Common.{◌∙◌, ap, subst, arith, take_all}
use Rattle.std.specs.List.{flat_map}
use Rattle.std.specs.List.Sorted.{IsPermutation}
use Rattle.std.specs.Io.KnownBytes.{Appends}
use Rattle.jffs_tree.specs.Look.{names_in}
use Rattle.jffs_text.proofs.Adding.{added_as, one_more}
use Rattle.jffs_text.proofs.Told.{names_told}
use Rattle.jffs_manage.specs.Looks.{entry_text, stat_in, name_line}
use Rattle.jffs_manage.proofs.looking.list_directory.Goals as goal

pub loop-name-preserved : goal.loop-name-preserved
loop-name-preserved g c =
    let tree = c.args.core.now.tree in
    let records = c.args.core.now.index.records.items in
    let line = name_line c.args.long tree records in
    let before = g.W.Write.contents c.args.out.now in
    let so_far = g.W.Write.contents c.loop-name.out in
    let after = g.W.Write.contents c.write_entry.new.out in
    let name = c.loop-name-item.result in
    let told : Appends so_far after (line name) = subst (λ s. Appends so_far after (entry_text c.args.long s name.0)) {y = stat_in c.args.long tree records name.1} c.stat_of.ensures c.in_ok-write_entry.ensures in
    one_more line c.deref-name-items.result.now c.loop-name.name-index name (omega (arith, c.loop-name-test.true)) before so_far after c.loop-name.invariant
    (subst (λ n. Appends so_far after (line n)) c.loop-name-item.is told)

pub returns-clause-written : goal.returns-clause-written
returns-clause-written g c =
    let line = name_line c.args.long c.args.core.now.tree c.args.core.now.index.records.items in
    let items = c.deref-name-items.result.now in
    let whole = take_all c.loop-name.name-index items (omega (arith, c.loop-name-test.false)) in
    let all = subst (λ t. IsPermutation (names_in t c.args.directory) c.in_ok-names.names.items) c.tree.ensures c.in_ok-names.ensures.all in
    let told = names_told c.args.core.now.tree c.args.directory _ c.requires all c.in_ok-names.ensures.ordered in
    added_as _ _ _ _ (ap (flat_map line) (whole ∙ c.deref-name-items.ensures.value ∙ told)) c.loop-name.invariant
