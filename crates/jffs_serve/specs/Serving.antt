-- What serving does.
use Rattle.std.specs.Prelude.{◌≡◌, ◌≢◌, ℕ, List, [], None, Some}
use Rattle.jffs_line.specs.declared.request.Request.{Request}
use Rattle.jffs_index.specs.declared.publisher.Publisher.{Publisher}
use Rattle.jffs_index.specs.Ends.{all_put, pending, publisher_index}
use Rattle.jffs_serve.specs.declared.session.Session.{Session}
use Rattle.jffs_serve.specs.declared.session.Served.{Served}
use Rattle.jffs_serve.specs.declared.session.Served.TheVariants.{Memory}
use Rattle.jffs_serve.specs.Answered.{RepliesMore}

module _ {F W : Type 0} where
  -- more requests were taken and answered, and unless memory is served all answers went out, to
  -- readers of the same index
  pub record HasServed (old : Session F) (publisher : Publisher W) (taken : ℕ → List Request)
      (new : Session F) (publisher' : Publisher W) (taken' : ℕ → List Request) (served : Served) :
      Type 0 where
    pub replies : RepliesMore old (all_put publisher).steps taken new (all_put publisher').steps
        taken' (Some served)
    pub published : served ≢ Memory → (new.unsent ≡ None) × (pending publisher' ≡ [])
    pub index : publisher_index publisher' ≡ publisher_index publisher
    pub opening : (all_put publisher').opening ≡ (all_put publisher).opening
