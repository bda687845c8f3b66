use Rattle.std.proofs.Common.{rules, subst}
use Rattle.std.specs.List.{All}
use Rattle.jffs_line.proofs.Lists.{All-left}
use Rattle.jffs_index.specs.declared.reader.Reader.{Reader}
use Rattle.jffs_index.specs.Ends.{IsReaderOf}
use Rattle.jffs_run.proofs.run.open.Goals as goal

pub returns-clause-looking : goal.returns-clause-looking
returns-clause-looking g c =
    let P : Reader → Type 0 = IsReaderOf c.in_ok-publisher.publisher in
    let full : All P c.in_ok-publisher.readers.items = search rules in
    let rest = All-left P c.pop.new.self.items _ (subst (All P) c.pop.ensures.items full) in
    λ k d below. (rest k d below).0
