-- The rounds of a cleaner.
use Rattle.std.proofs.Common.{◌≡◌, ℕ, ◌+◌, ◌≤◌, List, [], ◌∷◌, ◌++◌, length, map, refl, sym, ap, ap₂, subst, ◌∙◌, append_assoc, append-nil, length-append, arith, Option, Some, None, flat_map}
use Rattle.std.specs.Global.{Vec}
use Rattle.std.specs.List.{AllByRecursion}
use Rattle.std.proofs.lemmas.List.{map-append}
use Rattle.std.proofs.lemmas.List.Concat.{flat_map-append}
use Rattle.rtrb.specs.Ring.{received}
use Rattle.jffs_node.proofs.Each.{each_append}
use Rattle.jffs_tree.specs.declared.wish.Wish.{Wish}
use Rattle.jffs_inodes.specs.Inodes.{Tree}
use Rattle.jffs_line.specs.declared.request.Request.{Request}
use Rattle.jffs_index.specs.declared.rule.History.{History}
use Rattle.jffs_index.specs.Histories.{BeginsWith, view_of}
use Rattle.jffs_index.proofs.Kept.{begins_self, begins_trans}
use Rattle.jffs_serve.specs.declared.copies.Copying.{Copying}
use Rattle.jffs_serve.specs.declared.jobs.JobEnd.{JobEnd}
use Rattle.jffs_serve.specs.Copies.{AreSome, HandsIn}
use Rattle.jffs_serve.specs.Copying.{copies_of, nodes_in, wish_of}
use Rattle.jffs_serve.specs.Cleaning.{bytes_of, images_of, Round, wishes_in, SawMeanwhile, DoesRounds}
use Rattle.jffs_serve.proofs.Copying.{some_mapped, some_along, some_of_some}

abbrev rounds_of : Option (Vec ℕ) → Tree → List Round
rounds_of None tree = []
rounds_of (Some image) tree = record { image = image; tree = tree } ∷ []

abbrev asked_in : Option (Vec ℕ) → Tree → List Wish
asked_in image tree = map wish_of (copies_of tree (nodes_in (bytes_of image)))

asked_are : (image : Option (Vec ℕ)) (tree : Tree) → asked_in image tree ≡ flat_map wishes_in (rounds_of image tree)
asked_are None tree = refl
asked_are (Some image) tree = sym (append-nil (asked_in (Some image) tree))

images_are : (image : Option (Vec ℕ)) (tree : Tree) → images_of image ≡ map (λ (r : Round). r.image) (rounds_of image tree)
images_are None tree = refl
images_are (Some image) tree = refl

one_at_most : (image : Option (Vec ℕ)) (tree : Tree) → length (rounds_of image tree) ≤ 1
one_at_most None tree = omega arith
one_at_most (Some image) tree = omega arith

round_seen : (before now : History) (image : Option (Vec ℕ)) (tree : Tree) → SawMeanwhile before now tree → AllByRecursion (λ (r : Round). SawMeanwhile before now r.tree) (rounds_of image tree)
round_seen before now None tree seen = tt
round_seen before now (Some image) tree seen = (seen, tt)

seen_since : (before middle now : History) (rounds : List Round) → BeginsWith now middle → AllByRecursion (λ (r : Round). SawMeanwhile before middle r.tree) rounds → AllByRecursion (λ (r : Round). SawMeanwhile before now r.tree) rounds
seen_since before middle now [] more seen = tt
seen_since before middle now (r ∷ rounds) more seen =
    let first = seen.0 in
    ((first.0, first.1, begins_trans now middle first.0 more first.2, first.3), seen_since before middle now rounds more seen.1)

-- more rounds are allowed
pub cleans_within : (few many : ℕ) (old new : JobEnd) (before now : History) (accepted accepted' : List Request) → few ≤ many → DoesRounds few old new before now accepted accepted' → DoesRounds many old new before now accepted accepted'
cleans_within few many old new before now accepted accepted' more did = record {
  rounds = did.rounds;
  few = let f = did.few in omega (arith, more, f);
  taken = did.taken;
  seen = did.seen;
  asked = did.asked;
}

-- one round more, with an image or without
pub cleans_more :
    (limit : ℕ) (old mid new : JobEnd) (before middle now : History) (a b c : List Request) (image : Option (Vec ℕ)) (wishes : List Wish)
    → DoesRounds limit old mid before middle a b
    → received new.consumer ≡ received mid.consumer ++ images_of image
    → BeginsWith middle before → BeginsWith now middle
    → HandsIn wishes b c → AreSome wishes (asked_in image (view_of now).tree)
    → DoesRounds (limit + 1) old new before now a c
cleans_more limit old mid new before middle now a b c image wishes did took begins grows hands some =
    let tree : Tree = (view_of now).tree in
    let last = rounds_of image tree in
    let wish : Request → Wish = λ r. r.wish in
    let all : List Round = did.rounds ++ last in
    let image_in : Round → Vec ℕ = λ r. r.image in
    let later : AreSome (map wish hands.0) (flat_map wishes_in last) =
    subst (AreSome (map wish hands.0)) (asked_are image tree) (some_of_some (map wish hands.0) wishes (asked_in image tree) hands.2 some) in
    let both = some_along (map wish did.asked.0) (flat_map wishes_in did.rounds) (map wish hands.0) (flat_map wishes_in last) did.asked.2 later in
    record {
      rounds = all;
      few = let f = did.few in let o = one_at_most image tree in let l = length-append did.rounds last in omega (arith, f, o, l);
      taken = took ∙ (ap₂ (λ (xs ys : List (Vec ℕ)). xs ++ ys) did.taken (images_are image tree)
          ∙ (append_assoc (received old.consumer) (map image_in did.rounds) (map image_in last)
          ∙ ap (λ (xs : List (Vec ℕ)). received old.consumer ++ xs) (sym (map-append image_in did.rounds last))));
      seen = each_append (λ (r : Round). SawMeanwhile before now r.tree) did.rounds last (seen_since before middle now did.rounds grows did.seen)
          (round_seen before now image tree (now, begins_trans now middle before grows begins, begins_self now, refl));
      asked = (
        did.asked.0 ++ hands.0,
        hands.1 ∙ (ap (λ (xs : List Request). xs ++ hands.0) did.asked.1 ∙ append_assoc a did.asked.0 hands.0),
        subst (AreSome (map wish (did.asked.0 ++ hands.0))) (sym (flat_map-append wishes_in did.rounds last))
            (subst (λ (ws : List Wish). AreSome ws (flat_map wishes_in did.rounds ++ flat_map wishes_in last)) (sym (map-append wish did.asked.0 hands.0)) both),
      );
    }

-- a round in which nothing was handed in
pub hands_nothing : (accepted : List Request) → HandsIn [] accepted accepted
hands_nothing accepted = ([], sym (append-nil accepted), tt)

pub copies_asked : (image : Option (Vec ℕ)) (tree : Tree) (copies : List Copying) → AreSome copies (copies_of tree (nodes_in (bytes_of image))) → AreSome (map wish_of copies) (asked_in image tree)
copies_asked image tree copies some = some_mapped wish_of copies (copies_of tree (nodes_in (bytes_of image))) some
