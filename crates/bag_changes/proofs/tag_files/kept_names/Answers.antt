use Rattle.bag_changes.proofs.Common.{◌≡◌, ◌∙◌, ◌++◌, ◌∷◌, [], ap, append_assoc, cond, map, not, refl, Bool, true, false}
use Rattle.bag_changes.proofs.Common.{List, TagName, Declaration, Info, Manifest, Payload, algs_where, is_kept_alg, writes_info}
use Rattle.bag_changes.proofs.tag_files.kept_names.Goals as goal

turned : (b : Bool) (some : List TagName) → cond (not b) some [] ≡ cond b [] some
turned true some = refl
turned false some = refl

pub returns : goal.returns
returns c = λ bag renewal aim.
    let kept : List TagName = map (Manifest Payload) (algs_where (is_kept_alg bag renewal)) in
    let manifests : c.in_ok-names.names.items ≡ kept =
    c.in_ok-names.ensures ∙ ap (map (Manifest Payload)) (c.deref.ensures.value ∙ c.in_ok-algs.ensures.items ∙ aim.kept) in
    let info : cond (not c.args.target.now.writes_info) (Info ∷ []) [] ≡ cond (writes_info bag renewal) [] (Info ∷ []) =
    ap (λ b. cond (not b) (Info ∷ []) []) aim.writes_info ∙ turned (writes_info bag renewal) (Info ∷ []) in
    c.in_ok-push_where-2.ensures
    ∙ (λ i. (c.in_ok-push_where.ensures ∙ (λ j. manifests j ++ info j)) i
    ++ cond (aim.keeps_declaration i) (Declaration ∷ []) [])
    ∙ append_assoc kept _ _
