-- Files with their digests, put in the order of their paths.
use Rattle.bag_changes.proofs.Common.{◌≡◌, ◌++◌, ◌∷◌, ℕ, List, [], map, length, Option, refl, sym, ap, subst, ◌∙◌, Alg}
use Rattle.bag_changes.proofs.Common.{File, append-nil, append_assoc, nat_list_cmp_total, text_cmp, arith}
use Rattle.std.specs.BTreeMap.{insert_entry}
use Rattle.std.specs.FinMap as fin
use Rattle.std.specs.FinMap.Entries.{by_order, put}
use Rattle.std.specs.Ordering.{match_ordering}
use Rattle.std.specs.declared.cmp.Ordering.{Ordering}
use Rattle.std.specs.declared.cmp.Ordering.TheVariants.{Equal, Greater, Less}
use Rattle.bag_changes.specs.Composing.{AreInPathOrder, summed_of}
use Rattle.bag_renewed.specs.Renewed.{in_path_order}
use Rattle.bag_checked.specs.Summed.{AreSummedBy, HasSumsBy}
use Rattle.bag_tags.specs.declared.summed.SummedFile.{SummedFile}

-- a path, and the digests of a file
abbrev pub Entry : Type 0
Entry = List ℕ × List (Option (List ℕ))

-- of these files the first are left, and the others are put in the order of their paths
pub record IsPutFrom (algs : List Alg) (of : List File) (left : List SummedFile) (put : List Entry) : Type 0
  where
    pub front : List File
    pub back : List File
    pub all : front ++ back ≡ of
    pub summed : AreSummedBy algs front left
    pub ordered : AreInPathOrder algs back (map summed_of put)

pub no_length : {A : Type 0} (xs : List A) → length xs ≡ 0 → xs ≡ []
no_length [] e = refl
no_length (x ∷ xs) e = absurd (omega arith)

pub none_in_order : in_path_order [] ≡ []
none_in_order =
    no_length (in_path_order [])
    (sym (fin.len-entries (fin.empty {X = List ℕ} {R = text_cmp})) ∙ fin.len-empty text_cmp (List ℕ))

pub more_in_order : (e : File) (files : List File)
    → in_path_order (e ∷ files) ≡ put text_cmp e.0 e.1 (in_path_order files)
more_in_order e files =
    fin.entries-insert nat_list_cmp_total (fin.from_entries {R = text_cmp} files) e.0 e.1

module _ (algs : List Alg) where
  module _ (e : File) (path : List ℕ) (sums : List (Option (List ℕ)))
      (h : HasSumsBy algs e (summed_of (path, sums))) where
    put_by : (o : Ordering) (x : File) (es fs : List File) (p : Entry) (ps qs : List Entry)
        → HasSumsBy algs x (summed_of p) → AreSummedBy algs es (map summed_of ps)
        → AreSummedBy algs fs (map summed_of qs)
        → AreSummedBy algs (by_order o (e ∷ x ∷ es) ((x.0, e.1) ∷ es) (x ∷ fs))
        (map summed_of (match_ordering o ((path, sums) ∷ p ∷ ps) ((p.0, sums) ∷ ps) (p ∷ qs)))
    put_by Less x es fs p ps qs same rest more = (h, (same, rest))
    put_by Equal x es fs p ps qs same rest more = (record { path = same.path; sums = h.sums }, rest)
    put_by Greater x es fs p ps qs same rest more = (same, more)

    -- a file is put among files with their digests, by path
    put_more : (es : List File) (ps : List Entry) → AreSummedBy algs es (map summed_of ps)
        → AreSummedBy algs (put text_cmp e.0 e.1 es) (map summed_of (insert_entry text_cmp ps path sums))
    put_more [] [] are = (h, tt)
    put_more [] (p ∷ ps) are = absurd are
    put_more (x ∷ es) [] are = absurd are
    put_more (x ∷ es) (p ∷ ps) (same, rest) =
        let alike : text_cmp e.0 x.0 ≡ text_cmp path p.0 =
        ap (λ q. text_cmp q x.0) (sym h.path) ∙ ap (text_cmp path) (sym same.path) in
        subst (λ o. AreSummedBy algs (put text_cmp e.0 e.1 (x ∷ es))
        (map summed_of (match_ordering o ((path, sums) ∷ p ∷ ps) ((p.0, sums) ∷ ps)
        (p ∷ insert_entry text_cmp ps path sums)))) alike
        (put_by (text_cmp e.0 x.0) x es (put text_cmp e.0 e.1 es) p ps (insert_entry text_cmp ps path sums) same rest
        (put_more es ps rest))

  -- the last of files with their digests
  record HasLast (front : List File) (left : List SummedFile) (one : SummedFile) : Type 0 where
    before : List File
    e : File
    all : before ++ e ∷ [] ≡ front
    summed : AreSummedBy algs before left
    sums : HasSumsBy algs e one

  last_of : (front : List File) (left : List SummedFile) (one : SummedFile)
      → AreSummedBy algs front (left ++ one ∷ []) → HasLast front left one
  last_of [] [] one are = absurd are
  last_of [] (l ∷ left) one are = absurd are
  last_of (f ∷ []) [] one are =
      record { before = []; e = f; all = refl; summed = tt; sums = are.0 }
  last_of (f ∷ g ∷ fs) [] one are = absurd are.1
  last_of (f ∷ front) (l ∷ left) one are =
      let more = last_of front left one are.1 in record {
        before = f ∷ more.before;
        e = more.e;
        all = ap (λ xs. f ∷ xs) more.all;
        summed = (are.0, more.summed);
        sums = more.sums;
      }

  module _ (of : List File) where
    pub put_none : (left : List SummedFile) → AreSummedBy algs of left → IsPutFrom algs of left []
    put_none left are = record {
      front = of;
      back = [];
      all = append-nil of;
      summed = are;
      ordered = subst (λ files. AreSummedBy algs files []) (sym none_in_order) tt;
    }

    pub put_one_more : (left : List SummedFile) (old now : List Entry) (one : SummedFile)
        → IsPutFrom algs of (left ++ one ∷ []) old
        → now ≡ insert_entry text_cmp old one.path one.sums → IsPutFrom algs of left now
    put_one_more left old now one so_far is =
        let last = last_of so_far.front left one so_far.summed in
        let e = last.e in record {
          front = last.before;
          back = e ∷ so_far.back;
          all =
              sym (append_assoc last.before (e ∷ []) so_far.back)
              ∙ ap (λ xs. xs ++ so_far.back) last.all ∙ so_far.all;
          summed = last.summed;
          ordered =
              subst (λ files. AreSummedBy algs files (map summed_of now)) (sym (more_in_order e so_far.back))
              (subst (λ ps. AreSummedBy algs (put text_cmp e.0 e.1 (in_path_order so_far.back)) (map summed_of ps)) (sym is)
              (put_more e one.path one.sums last.sums (in_path_order so_far.back) old so_far.ordered));
        }

    -- none is left
    pub all_put : (now : List Entry) → IsPutFrom algs of [] now → AreInPathOrder algs of (map summed_of now)
    all_put now all = by_front all.front all.back all.all all.summed all.ordered
      where
        by_front : (front back : List File) → front ++ back ≡ of → AreSummedBy algs front []
            → AreInPathOrder algs back (map summed_of now) → AreInPathOrder algs of (map summed_of now)
        by_front [] back whole none ordered = subst (λ files. AreInPathOrder algs files (map summed_of now)) whole ordered
        by_front (f ∷ front) back whole none ordered = absurd none
