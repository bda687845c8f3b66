-- Serving begins: what was put before is published.
use Rattle.std.proofs.Common.{◌≡◌, ℕ, List, sym, subst, Some, None, refl}
use Rattle.jffs_line.specs.declared.request.Request.{Request}
use Rattle.jffs_index.specs.declared.rule.History.{History}
use Rattle.jffs_index.specs.declared.publisher.Publisher.{Publisher}
use Rattle.jffs_index.specs.Ends.{all_put}
use Rattle.jffs_serve.specs.declared.session.Session.{Session}
use Rattle.jffs_serve.specs.declared.session.Served.TheVariants.{Memory}
use Rattle.jffs_serve.specs.Answered.{start_of, RepliesMore}
use Rattle.jffs_serve.proofs.Replying.{nothing_more, nothing_replied}

module _ {F W : Type 0} where
  -- nothing was answered yet
  pub begun : (session : Session F) (old new : Publisher W) (taken : ℕ → List Request) → all_put new ≡ all_put old
      → RepliesMore session (all_put old).steps taken session (all_put new).steps taken None
  begun session old new taken same =
      subst (λ (h : History). RepliesMore session (all_put old).steps taken session h.steps taken None) (sym same)
      (nothing_more (start_of session (all_put old).steps taken) session.core session.unsent (all_put old).steps taken None (nothing_replied session (all_put old).steps taken) refl)

  pub begun_short : (session : Session F) (old new : Publisher W) (taken : ℕ → List Request) → all_put new ≡ all_put old
      → RepliesMore session (all_put old).steps taken session (all_put new).steps taken (Some Memory)
  begun_short session old new taken same =
      subst (λ (h : History). RepliesMore session (all_put old).steps taken session h.steps taken (Some Memory)) (sym same)
      (nothing_more (start_of session (all_put old).steps taken) session.core session.unsent (all_put old).steps taken (Some Memory) (nothing_replied session (all_put old).steps taken) refl)
