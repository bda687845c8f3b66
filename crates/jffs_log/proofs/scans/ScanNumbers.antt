-- The numbers of a log are found node by node.
use Rattle.std.proofs.Common.{◌≡◌, ℕ, ◌≤◌, Bool, true, ◌&&◌, ltb, max, List, [], ◌∷◌, ◌++◌, length, reverse, refl, sym, ap, ◌∙◌, arith}
use Rattle.std.proofs.lemmas.List.{reverse-append, length-reverse}
use Rattle.std.specs.List.{AllByRecursion}
use Rattle.std.proofs.lemmas.Bool.{leb-true, lt-ltb}
use Rattle.jffs_node.specs.declared.node.Node.{Node}
use Rattle.jffs_node.specs.Record.{is_lawful}
use Rattle.jffs_node.proofs.Lawfulness.{rules_of}
use Rattle.jffs_log.specs.Scan.{versions_rise}
use Rattle.jffs_log.specs.Room.{following, next_version, greatest_inode}
use Rattle.jffs_log.specs.ScanFound.{last_version}

-- the versions rise from this one on
abbrev pub rise_from : ℕ → List Node → Bool
rise_from v [] = true
rise_from v (n ∷ nodes) = ltb v n.version && rise_from n.version nodes

-- the last version, this one where there is none
abbrev pub last_from : ℕ → List Node → ℕ
last_from v [] = v
last_from v (n ∷ nodes) = last_from n.version nodes

rises_on : (n : Node) (nodes : List Node) → rise_from n.version nodes ≡ versions_rise (n ∷ nodes)
rises_on n [] = refl
rises_on n (m ∷ nodes) = ap (λ b. ltb n.version m.version && b) (rises_on m nodes)

pub rises : (nodes : List Node) → AllByRecursion (λ n. is_lawful n ≡ true) nodes → rise_from 0 nodes ≡ versions_rise nodes
rises [] h = refl
rises (n ∷ nodes) h = let one = leb-true 1 n.version (rules_of n h.0).version in ap (λ b. b && rise_from n.version nodes) (lt-ltb 0 n.version (omega arith)) ∙ rises_on n nodes

lasts_on : (n : Node) (nodes : List Node) → last_from n.version nodes ≡ last_version (n ∷ nodes)
lasts_on n [] = refl
lasts_on n (m ∷ nodes) = lasts_on m nodes

pub lasts : (nodes : List Node) → last_from 0 nodes ≡ last_version nodes
lasts [] = refl
lasts (n ∷ nodes) = lasts_on n nodes

pub inode_one : (nodes : List Node) → 1 ≤ greatest_inode nodes
inode_one [] = omega arith
inode_one (n ∷ nodes) = let more = inode_one nodes in omega arith

-- the greatest inode is the same from the newest node on
greatest_snoc : (past : List Node) (n : Node) → greatest_inode (past ++ n ∷ []) ≡ max n.inode (greatest_inode past)
greatest_snoc [] n = refl
greatest_snoc (m ∷ past) n = let e = greatest_snoc past n in omega arith

pub greatest_first : (nodes : List Node) → greatest_inode nodes ≡ greatest_inode (reverse nodes)
greatest_first [] = refl
greatest_first (n ∷ nodes) =
    ap (max n.inode) (greatest_first nodes)
    ∙ sym (ap greatest_inode (reverse-append (n ∷ []) nodes) ∙ greatest_snoc (reverse nodes) n)

version_snoc : (past : List Node) (n : Node) → 1 ≤ length past → next_version (past ++ n ∷ []) ≡ next_version past
version_snoc [] n some = absurd (omega arith)
version_snoc (m ∷ past) n some = refl

-- and the last version is that of the newest
pub version_first : (nodes : List Node) → following (last_version nodes) ≡ next_version (reverse nodes)
version_first [] = refl
version_first (n ∷ []) = refl
version_first (n ∷ m ∷ nodes) = version_first (m ∷ nodes) ∙ sym (ap next_version (reverse-append (n ∷ []) (m ∷ nodes)) ∙ version_snoc (reverse (m ∷ nodes)) n (let e = length-reverse (m ∷ nodes) in omega arith))
