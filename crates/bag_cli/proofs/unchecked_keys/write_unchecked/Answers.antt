-- The lines of keys are written one by one.
use Rattle.bag_cli.proofs.Common.{◌≡◌, ℕ, zero, suc, get_or, ◌∷◌, ◌<◌, ◌++◌, List, [], length, take, drop, Option, refl}
use Rattle.bag_cli.proofs.Common.{ap, sym, ◌∙◌, append_assoc, arith, Appends, IsCut, append-IsCut, IsCut-append}
use Rattle.bag_cli.proofs.Common.{err_from_is_err_and, unchecked_line, unchecked_lines}
use Rattle.bag_cli.proofs.unchecked_keys.write_unchecked.Goals as goal

-- the lines before a key's, that line, and the others
lines_split : (keys : List (List ℕ)) (i : ℕ) (d : List ℕ) → i < length keys
    → unchecked_lines keys
    ≡ unchecked_lines (take i keys) ++ (unchecked_line (get_or keys i d) ++ unchecked_lines (drop (suc i) keys))
lines_split [] i d h = absurd (omega arith)
lines_split (k ∷ ks) zero d h = refl
lines_split (k ∷ ks) (suc i) d h =
    ap (λ rest. unchecked_line k ++ rest) (lines_split ks i d (omega arith))
    ∙ sym (append_assoc (unchecked_line k) (unchecked_lines (take i ks))
    (unchecked_line (get_or ks i d) ++ unchecked_lines (drop (suc i) ks)))

-- a line was cut off after those before it
lines_cut : (old mid new : Option (List ℕ)) (keys : List (List ℕ)) (i : ℕ) (key : List ℕ) → i < length keys
    → key ≡ get_or keys i key → Appends old mid (unchecked_lines (take i keys))
    → IsCut mid new (unchecked_line key) → IsCut old new (unchecked_lines keys)
lines_cut old mid new keys i key h at taken cut =
    rw (lines_split keys i key h, ← at)
    (append-IsCut old mid new (unchecked_lines (take i keys)) _ taken
    (IsCut-append mid new (unchecked_line key) _ cut))

pub returns-in_err-put_unchecked : goal.returns-in_err-put_unchecked
returns-in_err-put_unchecked g c =
    rw (
      (err_from_is_err_and c.from_residual.result c.from_residual.ensures.1).1,
      ← c.unchecked-key-items.ensures.unchecked,
    ) (
      lines_cut _ _ _ _ c.loop-key.key-index c.key-item.result c.loop-key-test.true c.key-item.is c.loop-key.invariant
          (rw c.as_str.ensures at c.in_err-put_unchecked.ensures.0),
      c.in_err-put_unchecked.ensures.1,
    )
