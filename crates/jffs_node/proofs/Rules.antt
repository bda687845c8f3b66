-- The first broken rule of a list.
use Rattle.std.proofs.Common.{◌≡◌, ℕ, ◌+◌, ◌≤◌, Bool, true, false, cond, not, ◌&&◌, ◌||◌, leb, eqb, List, [], ◌∷◌, ◌++◌, Option, Some, None, Result, Ok, Err, refl, sym, ap, ◌∙◌, ⊎_elim}
use Rattle.std.specs.List.{AllByRecursion}
use Rattle.jffs_node.specs.declared.read.Why.{Why}
use Rattle.jffs_node.specs.Reading.{first_broken}
use Rattle.std.proofs.lemmas.Bool.{cases_Bool, and_parts, leb-true}
use Rattle.std.proofs.lemmas.Option.{none-some}
use Rattle.jffs_node.specs.declared.header.Labels.{Labels}
use Rattle.jffs_node.specs.declared.node.Node.{Node}
use Rattle.jffs_node.specs.declared.node.Kind.{Kind}
use Rattle.jffs_node.specs.declared.node.Kind.TheVariants.{File, Directory, Unmount}
use Rattle.jffs_node.specs.Record.{kind_numbers, has_no_range, size_numbers, numbers_hold, len_of_data, is_unmount, fits_rest}
use Rattle.jffs_node.specs.Header.{checked, labels_at, labels_or_why}

pub ok_differs : {A E : Type 0} (w : E) (y : A) → ◌≡◌ {A = Result A E} (Ok y) (Err w) → ⊥
ok_differs w y e = cc

pub ok_same : {A E : Type 0} (x y : A) → ◌≡◌ {A = Result A E} (Ok x) (Ok y) → x ≡ y
ok_same x y e = cc

pub err_same : {A : Type 0} (w e : Why) → ◌≡◌ {A = Result A Why} (Err e) (Err w) → e ≡ w
err_same {A} w e h = cc

-- what was read, where the rule holds
pub rule_holds : {A : Type 0} (b : Bool) (w : Why) (x y : A) → Ok y ≡ checked b w x → (b ≡ true) × (y ≡ x)
rule_holds true w x y h = (refl, ok_same y x h)
rule_holds false w x y h = absurd (ok_differs w y h)

-- the rule that doesn't hold
rule_broken : {A : Type 0} (b : Bool) (w e : Why) (x : A) → Err e ≡ checked b w x → (b ≡ false) × (e ≡ w)
rule_broken true w e x h = absurd (ok_differs e x (sym h))
rule_broken {A} false w e x h = (refl, err_same {A = A} w e h)

-- Lists of rules.
pub first_later : (front later : List (Bool × Why)) → AllByRecursion (λ r. r.0 ≡ true) front → first_broken (front ++ later) ≡ first_broken later
first_later [] later h = refl
first_later (rule ∷ front) later h = ap (λ t. cond t (first_broken (front ++ later)) (Some rule.1)) h.0 ∙ first_later front later h.1

broken_after : (front later : List (Bool × Why)) (b : Bool) (w : Why) → AllByRecursion (λ r. r.0 ≡ true) front → b ≡ false → first_broken (front ++ (b, w) ∷ later) ≡ Some w
broken_after front later b w h e = first_later front ((b, w) ∷ later) h ∙ ap (λ t. cond t (first_broken later) (Some w)) e

-- Where a rule is broken and those before it hold, it is the one that is given.
pub refused : {A B : Type 0} (given : Option Why → Result B Why) (front later : List (Bool × Why)) (b : Bool) (w e : Why) (x : A) (o : Option Why) (r : Result B Why)
    → o ≡ first_broken (front ++ (b, w) ∷ later) → AllByRecursion (λ rule. rule.0 ≡ true) front → Err e ≡ checked b w x → (v : Why) × (r ≡ Err v) × (v ≡ e) → given (Some w) ≡ Err w → r ≡ given o
refused given front later b w e x o r others hold broke is told =
    let q = rule_broken b w e x broke in
    is.1 ∙ ap (λ v. Err v) (is.2 ∙ q.1) ∙ sym (ap given (others ∙ broken_after front later b w hold q.0) ∙ told)

pub broken_front : (front later : List (Bool × Why)) (w : Why) → first_broken front ≡ Some w → first_broken (front ++ later) ≡ Some w
broken_front [] later w h = absurd (none-some w h)
broken_front (rule ∷ front) later w h = ⊎_elim
    (λ t. ap (λ b. cond b (first_broken (front ++ later)) (Some rule.1)) t ∙ broken_front front later w (sym (ap (λ b. cond b (first_broken front) (Some rule.1)) t) ∙ h))
    (λ f. ap (λ b. cond b (first_broken (front ++ later)) (Some rule.1)) f ∙ sym (ap (λ b. cond b (first_broken front) (Some rule.1)) f) ∙ h)
    (cases_Bool rule.0)

-- What labels that were read say of their rules.
pub labels_read : (rest : List ℕ) (o : Option Why) (l : Labels) → Ok l ≡ labels_or_why rest o → (o ≡ None) × (l ≡ labels_at rest)
labels_read rest None l h = (refl, ok_same l (labels_at rest) h)
labels_read rest (Some w) l h = absurd (ok_differs w l h)

pub labels_refused : (rest : List ℕ) (o : Option Why) (w : Why) → Err w ≡ labels_or_why rest o → o ≡ Some w
labels_refused rest None w h = absurd (ok_differs w (labels_at rest) (sym h))
labels_refused rest (Some v) w h = ap (λ x. Some x) (sym (err_same {A = Labels} v w h))

-- The number rules don't look at the data.
kinds_without_data : (k : Kind) (n : Node) (amount : ℕ) → kind_numbers k (record n { bytes = [] }) amount ≡ kind_numbers k n amount
kinds_without_data File n amount = refl
kinds_without_data Directory n amount = refl
kinds_without_data Unmount n amount = refl

pub numbers_without_data : (n : Node) (amount : ℕ) → numbers_hold (record n { bytes = [] }) amount ≡ numbers_hold n amount
numbers_without_data n amount =
    ap (λ b. leb 1 n.version && b && (not n.deleted || has_no_range n amount) && (not n.copy || eqb n.rsize amount) && size_numbers n amount) (kinds_without_data n.kind n amount)

-- a record that fits is no longer than allowed, fits, and leaves room for an unmount node
pub fits_rest_parts : (kind : Kind) (amount record_max rest : ℕ) → fits_rest kind amount record_max rest ≡ true
    → (len_of_data amount ≤ record_max) × (len_of_data amount ≤ rest) × ((is_unmount kind || leb (len_of_data amount + 64) rest) ≡ true)
fits_rest_parts kind amount record_max rest h =
    let a = and_parts (leb (len_of_data amount) record_max && leb (len_of_data amount) rest) (is_unmount kind || leb (len_of_data amount + 64) rest) h in
    let b = and_parts (leb (len_of_data amount) record_max) (leb (len_of_data amount) rest) a.0 in
    (leb-true (len_of_data amount) record_max b.0, leb-true (len_of_data amount) rest b.1, a.1)
