-- A refusal is reported of one file.
use Rattle.bag_make.proofs.Common.{ℕ, ◌≡◌, ◌++◌, ◌∷◌, inl, inr, List, is_some, true, false, ap, sym, ◌∙◌}
use Rattle.bag_make.proofs.Common.{RefusesOneFile}
use Rattle.std.proofs.lemmas.List.{append_cancel_left, same_from_push}

-- the same files were opened before
same_place : (old before after front behind : List (List ℕ)) (one other : List ℕ)
    → before ++ one ∷ after ≡ front ++ other ∷ behind → old ++ before ≡ old ++ front → one ≡ other
same_place old before after front behind one other same e =
    let at = append_cancel_left old before front e in
    let rest : one ∷ after ≡ other ∷ behind =
    append_cancel_left before (one ∷ after) (other ∷ behind) (same ∙ ap (λ xs. xs ++ other ∷ behind) (sym at)) in cc

pub tells_one_file : RefusesOneFile
tells_one_file paths old new one other (before, after, is, inl (closed, e)) (front, behind, too, inl (shut, f)) =
    same_place old.openings before after front behind one other (sym is ∙ too) (sym e ∙ f)
tells_one_file paths old new one other (before, after, is, inl (closed, e)) (front, behind, too, inr (opened, f)) =
    (let clash : false ≡ true = sym (ap is_some closed) ∙ opened in cc)
tells_one_file paths old new one other (before, after, is, inr (opened, e)) (front, behind, too, inl (shut, f)) =
    (let clash : false ≡ true = sym (ap is_some shut) ∙ opened in cc)
tells_one_file paths old new one other (before, after, is, inr (opened, e)) (front, behind, too, inr (open_too, f)) =
    (same_from_push (old.openings ++ before) (old.openings ++ front) one other (sym e ∙ f)).1
