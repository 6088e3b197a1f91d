-- Files that are put into a map, one after the other.
use Rattle.bag_make.proofs.Common.{arith, ◌≡◌, ℕ, ◌⊎◌, inl, inr, List, [], ◌∷◌, Some, fold, Contains}
use Rattle.bag_make.proofs.Common.{nat_list_cmp_total, get-insert, contains_cases, contains_first}
use Rattle.bag_make.proofs.Common.{contains_behind, contains_nothing, exact_texts, one_text, text_itself, Files, File}
use Rattle.std.specs.FinMap as fin
use Rattle.bag_facts.proofs.Found.{same_option}

-- each file is put at the path that it has then
abbrev pub put_at : (List ℕ → List ℕ) → Files → List File → Files
put_at place files es = fold (λ files e. fin.insert files (place e.0) e.1) files es

module _ (place : List ℕ → List ℕ) where
  -- a file of the list goes to this path with these bytes
  abbrev pub IsPut : List File → List ℕ → List ℕ → Type 0
  IsPut es q c = (p : List ℕ) × (q ≡ place p) × Contains es (p, c)

  -- what is there was put there, or was there
  pub from_put : (es : List File) (files : Files) (q c : List ℕ) → fin.get (put_at place files es) q ≡ Some c
      → IsPut es q c ⊎ (fin.get files q ≡ Some c)
  from_put [] files q c is = inr is
  from_put (e ∷ es) files q c is =
      grind (
        arith,
        contains_behind,
        contains_first,
        get-insert,
        nat_list_cmp_total,
        one_text,
        from_put es (fin.insert files (place e.0) e.1) q c is,
      )

  -- and what is put is there, or was there and stays, where no other bytes are put at its path
  next : (e : File) (es : List File) (files : Files) (q c : List ℕ) → IsPut (e ∷ es) q c ⊎ (fin.get files q ≡ Some c)
      → (q ≡ place e.0 → e.1 ≡ c)
      → IsPut es q c ⊎ (fin.get (fin.insert files (place e.0) e.1) q ≡ Some c)
  next e es files q c (inl (p, at, has)) one =
      grind (
        arith,
        contains_cases e es (p, c) has,
        get-insert nat_list_cmp_total files (place e.0) e.1 q,
        text_itself q,
      )
  next e es files q c (inr old) one =
      grind (arith, get-insert nat_list_cmp_total files (place e.0) e.1 q, one_text q (place e.0))

  pub to_put : (es : List File) (files : Files) (q c : List ℕ) → IsPut es q c ⊎ (fin.get files q ≡ Some c)
      → ((p d : List ℕ) → Contains es (p, d) → q ≡ place p → d ≡ c) → fin.get (put_at place files es) q ≡ Some c
  to_put [] files q c there one = elim there [ inl put ↦ absurd (contains_nothing (put.0, c) put.2) | inr old ↦ old ]
  to_put (e ∷ es) files q c there one =
      to_put es (fin.insert files (place e.0) e.1) q c (next e es files q c there (one e.0 e.1 (contains_first e es)))
      (λ p d has. one p d (contains_behind e es (p, d) has))

-- maps that hold the same are one
pub same_files : (m n : Files) → ((q c : List ℕ) → fin.get m q ≡ Some c → fin.get n q ≡ Some c)
    → ((q c : List ℕ) → fin.get n q ≡ Some c → fin.get m q ≡ Some c) → m ≡ n
same_files m n to from =
    fin.same_map nat_list_cmp_total exact_texts m n (λ q. same_option (fin.get m q) (fin.get n q) (to q) (from q))
