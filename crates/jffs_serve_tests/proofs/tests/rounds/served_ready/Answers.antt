use Rattle.std.proofs.Common.{◌∙◌, sym, ap}
use Rattle.jffs_core.specs.CoreState.{CoreState}
use Rattle.jffs_index.specs.Histories.{opening_of}
use Rattle.jffs_serve.proofs.Showing.{can_begin}
use Rattle.jffs_serve_tests.proofs.tests.rounds.served_ready.Goals as goal

pub serve_on-served-requires : goal.serve_on-served-requires
serve_on-served-requires g c =
    let opened = c.in_ok-publisher.ensures in
    can_begin c.new-session.result c.in_ok-publisher.publisher c.new-session.ensures.unsent
    (opened.0 ∙ ap opening_of (c.in_ok-copy_tree.ensures ∙ c.tree.ensures) ∙ ap (λ (s : CoreState). opening_of s.tree) (sym c.new-session.ensures.core)) opened.1
