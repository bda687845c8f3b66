-- A log and the history whose newest part it holds.
use Rattle.std.proofs.Common.{◌≡◌, ℕ, ◌+◌, ◌^◌, cond, ltb, List, [], ◌∷◌, ◌++◌, reverse, flat_map, Option, Some, None, refl, sym, ap, ◌∙◌, arith, ⊎_elim}
use Rattle.std.proofs.lemmas.Bool.{cases_Bool}
use Rattle.std.proofs.lemmas.List.{reverse-append, append-nil, append_assoc}
use Rattle.jffs_node.specs.declared.node.Node.{Node}
use Rattle.jffs_log.specs.Room.{weight}
use Rattle.jffs_log.specs.Cleaning.{live_used, in_last, without_oldest, oldest_records}
use Rattle.jffs_log.specs.RoomLaws.{LogsWeighLess, VersionsFollow, Holds, PutsAreNewest, ErasedAreOldest}
use Rattle.jffs_log.proofs.rooms.Turn.{live-append}
use Rattle.jffs_log.proofs.append.Puts.{put_by}

pub live_reversed : (past nodes : List Node) → live_used past (reverse nodes) ≡ live_used past nodes
live_reversed past [] = refl
live_reversed past (n ∷ nodes) =
    let back : live_used past (reverse (n ∷ nodes)) ≡ live_used past (reverse nodes ++ n ∷ []) = ap (live_used past) (reverse-append (n ∷ []) nodes) in
    let apart = live-append past (reverse nodes) (n ∷ []) in
    let joined = live-append past (n ∷ []) nodes in
    let later = live_reversed past nodes in
    omega arith

pub logs_weigh_less : LogsWeighLess
logs_weigh_less s erased is =
    let log = flat_map (λ nodes. nodes) s.log.sectors in
    let a : weight s.past ≡ live_used s.past (reverse log ++ erased) = ap (live_used s.past) is in
    let b = live-append s.past (reverse log) erased in
    let d = live_reversed s.past log in
    omega arith

pub versions_follow : VersionsFollow
versions_follow [] version h = cc
versions_follow (n ∷ past) version h = ⊎_elim
    (λ t. let e : Some (n.version + 1) ≡ Some version = ap (λ b. cond b (Some (n.version + 1)) None) (sym t) ∙ h in cc)
    (λ f. let e : ◌≡◌ {A = Option ℕ} None (Some version) = ap (λ b. cond b (Some (n.version + 1)) None) (sym f) ∙ h in cc)
    (cases_Bool (ltb (n.version + 1) (2 ^ 32)))

flat_in_last : (n : Node) (sectors : List (List Node)) → flat_map (λ nodes. nodes) (in_last n sectors) ≡ flat_map (λ nodes. nodes) sectors ++ n ∷ []
flat_in_last n [] = refl
flat_in_last n (s ∷ []) = append-nil (s ++ n ∷ []) ∙ ap (λ t. t ++ n ∷ []) (sym (append-nil s))
flat_in_last n (s ∷ t ∷ sectors) = ap (λ later. s ++ later) (flat_in_last n (t ∷ sectors)) ∙ sym (append_assoc s (flat_map (λ nodes. nodes) (t ∷ sectors)) (n ∷ []))

flat_in_next : (n : Node) (sectors : List (List Node)) → flat_map (λ nodes. nodes) (sectors ++ (n ∷ []) ∷ []) ≡ flat_map (λ nodes. nodes) sectors ++ n ∷ []
flat_in_next n [] = refl
flat_in_next n (s ∷ sectors) = ap (λ later. s ++ later) (flat_in_next n sectors) ∙ sym (append_assoc s (flat_map (λ nodes. nodes) sectors) (n ∷ []))

newest_first : (n : Node) (past before after gone : List Node) → past ≡ reverse before ++ gone → after ≡ before ++ n ∷ [] → n ∷ past ≡ reverse after ++ gone
newest_first n past before after gone h is = ap (λ xs. n ∷ xs) h ∙ sym (ap (λ xs. xs ++ gone) (ap (λ (xs : List Node). reverse xs) is ∙ reverse-append before (n ∷ [])))

pub puts_are_newest : PutsAreNewest
puts_are_newest z room n s gone h = put_by (λ l. Holds (record { past = n ∷ s.past; log = l }) gone) z room n s.log
    (λ fits. newest_first n s.past (flat_map (λ nodes. nodes) s.log.sectors) (flat_map (λ nodes. nodes) (in_last n s.log.sectors)) gone h (flat_in_last n s.log.sectors))
    (λ less. newest_first n s.past (flat_map (λ nodes. nodes) s.log.sectors) (flat_map (λ nodes. nodes) (s.log.sectors ++ (n ∷ []) ∷ [])) gone h (flat_in_next n s.log.sectors))

oldest_gone : (past gone : List Node) (sectors : List (List Node)) → past ≡ reverse (flat_map (λ nodes. nodes) sectors) ++ gone
    → past ≡ reverse (flat_map (λ nodes. nodes) (without_oldest sectors)) ++ (reverse (oldest_records sectors) ++ gone)
oldest_gone past gone [] h = h
oldest_gone past gone (s ∷ sectors) h =
    h ∙ ap (λ xs. xs ++ gone) (reverse-append s (flat_map (λ nodes. nodes) sectors)) ∙ append_assoc (reverse (flat_map (λ nodes. nodes) sectors)) (reverse s) gone

pub erased_are_oldest : ErasedAreOldest
erased_are_oldest s gone h = oldest_gone s.past gone s.log.sectors h
