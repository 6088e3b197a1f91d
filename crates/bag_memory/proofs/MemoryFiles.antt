-- What files and folders in memory stand for.
use Rattle.bag_memory.proofs.Common.{◌≡◌, ℕ, List, [], ◌∷◌, true, false, cond, Option, None, Some, is_some, length}
use Rattle.bag_memory.proofs.Common.{take, drop, min, ◌+◌, ◌<◌, arith, refl, ◌∙◌, find, get, insert, from_entries}
use Rattle.bag_memory.proofs.Common.{get-from_entries, get-insert, same_map, nat_list_cmp_total, eq_by_cmp_equiv}
use Rattle.bag_memory.proofs.Common.{lookup, is_at, text_cmp, unread_rest, bag_of_files, ReadsNext, exact_texts}
use Rattle.std.proofs.lemmas.Grind.{common_steps}

find_lookup : (es : List (List ℕ × List ℕ)) (q : List ℕ) → find text_cmp q es ≡ lookup (is_at (text_cmp q)) es
find_lookup [] q = refl
find_lookup (e ∷ es) q = grind (arith, find_lookup es q)

-- the bytes at a path
pub file_at : (es : List (List ℕ × List ℕ)) (q : List ℕ)
    → get (from_entries {R = text_cmp} es) q ≡ lookup (is_at (text_cmp q)) es
file_at es q = get-from_entries nat_list_cmp_total es q ∙ find_lookup es q

-- the rest of the open file
pub rest_at : (files : List (List ℕ × List ℕ)) (folders : List (List ℕ)) (file : Option (List ℕ))
    (path content : List ℕ) (at : ℕ)
    → file ≡ Some path → lookup (is_at (text_cmp path)) files ≡ Some content
    → unread_rest (bag_of_files files folders) file at ≡ Some (drop at content)
rest_at files folders file path content at is place = grind (arith, file_at)

-- entries that differ at one path make maps that differ there
pub one_put : (es fs : List (List ℕ × List ℕ)) (k v : List ℕ)
    → ((q : List ℕ) → lookup (is_at (text_cmp q)) fs
    ≡ cond (is_at (text_cmp k) q) (Some v) (lookup (is_at (text_cmp q)) es))
    → from_entries {R = text_cmp} fs ≡ insert (from_entries es) k v
one_put es fs k v h =
    same_map nat_list_cmp_total exact_texts _ _ (λ q.
    grind (
      arith,
      file_at,
      h q,
      (eq_by_cmp_equiv nat_list_cmp_total).symm,
      get-insert {X = List ℕ} nat_list_cmp_total,
    ))

pub none_from : {A : Type 0} (o : Option A) → is_some o ≡ false → o ≡ None
none_from o e = grind arith

pub some_from : {A : Type 0} (o : Option A) → is_some o ≡ true → (x : A) × (o ≡ Some x)
some_from None e = cc
some_from (Some x) e = (x, refl)

no_length : (xs : List ℕ) → length xs ≡ 0 → xs ≡ []
no_length [] e = refl
no_length (x ∷ xs) e = absurd (omega arith)

drop-drop : (i n : ℕ) (xs : List ℕ) → drop (i + n) xs ≡ drop n (drop i xs)
drop-drop i n xs = grind (arith, common_steps)

-- a piece of a file was copied
pub reads_piece : (content old buffer : List ℕ) (at n : ℕ) → n ≡ min (length (drop at content)) (length old)
    → 0 < length old → take n buffer ≡ take n (drop at content)
    → ReadsNext (Some (drop at content)) (Some (drop (at + n) content)) n buffer
reads_piece content old buffer at n e some copied = grind (arith, drop-drop, no_length)
