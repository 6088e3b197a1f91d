use Rattle.bag_tags.proofs.Common.{◌≡◌, ℕ, List, [], ◌++◌, refl, sym, ◌∙◌, append_assoc, Result, Ok, Err, OnErr}
use Rattle.bag_tags.proofs.Common.{append-nil, ◌∷◌, ap, line_feed}
use Rattle.bag_tags.specs.Line.{HasPartOf}
use Rattle.bag_tags.proofs.line.push_line.Goals as goal

-- What stands after a text where a line isn't written whole.

on_err : {T E : Type 0} (r : Result T E) (P : Type 0) → P → OnErr r P
on_err (Ok x) P h = tt
on_err (Err e) P h = h

-- nothing of it
no_part : (line old new : List ℕ) → new ≡ old → HasPartOf line old new
no_part line old new e = ([], line, refl, e ∙ sym (append-nil old))

module _ (front between back end old new : List ℕ) where
  front_part : new ≡ old ++ front → HasPartOf (front ++ between ++ back ++ end) old new
  front_part e = (
    front,
    between ++ (back ++ end),
    append_assoc (front ++ between) back end
        ∙ append_assoc front between (back ++ end),
    e,
  )

  two_parts : new ≡ old ++ front ++ between → HasPartOf (front ++ between ++ back ++ end) old new
  two_parts e =
      (front ++ between, back ++ end, append_assoc (front ++ between) back end, e ∙ append_assoc old front between)

pub returns-in_err-push_str-clause-refused : goal.returns-in_err-push_str-clause-refused
returns-in_err-push_str-clause-refused c = on_err _ _ (no_part _ _ _ c.in_err-push_str.ensures.bytes)

pub returns-in_err-push_str-2-clause-refused : goal.returns-in_err-push_str-2-clause-refused
returns-in_err-push_str-2-clause-refused c =
    on_err _ _ (front_part c.args.front.now c.args.between.now c.args.back.now (line_feed ∷ []) _ _
    (c.in_err-push_str-2.ensures.bytes ∙ c.in_ok-push_str.ensures.bytes))

pub returns-in_err-push_str-3-clause-refused : goal.returns-in_err-push_str-3-clause-refused
returns-in_err-push_str-3-clause-refused c =
    on_err _ _ (two_parts c.args.front.now c.args.between.now c.args.back.now (line_feed ∷ []) _ _
    (c.in_err-push_str-3.ensures.bytes ∙ c.in_ok-push_str-2.ensures.bytes
    ∙ ap (λ t. t ++ c.args.between.now) c.in_ok-push_str.ensures.bytes))
