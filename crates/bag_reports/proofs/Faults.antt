-- Lines of faults in order, written one after another.
use Rattle.std.proofs.Common.{◌≡◌, ℕ, ◌+◌, ◌++◌, ◌∷◌, List, [], Option, Some, Contains, length, refl, sym, ap}
use Rattle.std.proofs.Common.{◌∙◌, subst, inl, inr, append_assoc, append-nil, length-append, codes}
use Rattle.std.specs.Io.KnownBytes.{Appends}
use Rattle.std.specs.List.{concat, AllByRecursion}
unfoldable use Rattle.std.specs.List.Sorted.{IsStrictlySortedBy}
use Rattle.std.specs.declared.cmp.Ordering.TheVariants.{Less}
use Rattle.bag_text.proofs.ListOf.{contains_cases, contains_nothing}
use Rattle.bag_tree.proofs.Writing.{Appends-append, Appends-nil}
use Rattle.bag_tree.specs.Out.{OutState}
use Rattle.bag_faults.proofs.Ordered.{fault_cmp_total}
use Rattle.bag_faults.specs.FaultOrder.{fault_cmp}
use Rattle.bag_faults.specs.LineOf.{IsFault, IsLineOf}
use Rattle.bag_faults.specs.declared.fault.Fault.{Fault}
use Rattle.bag_walk.specs.Ending.{written, written_line}
use Rattle.bag_reports.specs.Faults.{AreAfter, IsAfter, last_of, WritesFaults}

-- the lines of some faults, and of others
pub written_joined : (xs ys : List Fault) → concat (written (xs ++ ys)) ≡ concat (written xs) ++ concat (written ys)
written_joined [] ys = refl
written_joined (x ∷ xs) ys =
    ap (λ rest. written_line x ++ rest) (written_joined xs ys)
    ∙ sym (append_assoc (written_line x) (concat (written xs)) (concat (written ys)))

pub after_joined : (last : Option Fault) (xs ys : List Fault) → AreAfter last xs → AreAfter (last_of last xs) ys
    → AreAfter last (xs ++ ys)
after_joined last [] ys p q = q
after_joined last (x ∷ xs) ys p q = (p.0, p.1, after_joined (Some x) xs ys p.2 q)

last_joined : (last : Option Fault) (xs ys : List Fault) → last_of last (xs ++ ys) ≡ last_of (last_of last xs) ys
last_joined last [] ys = refl
last_joined last (x ∷ xs) ys = last_joined (Some x) xs ys

-- faults, and others after them
pub writes_on : (first mid_last last : Option Fault) (before mid after : OutState) (m n : ℕ) (xs ys : List Fault)
    → WritesFaults first mid_last before mid m xs → WritesFaults mid_last last mid after n ys
    → WritesFaults first last before after (m + n) (xs ++ ys)
writes_on first mid_last last before mid after m n xs ys a b = record {
  in_order = after_joined first xs ys a.in_order (subst (λ o. AreAfter o ys) a.last_is b.in_order);
  last_is = b.last_is ∙ ap (λ o. last_of o ys) a.last_is ∙ sym (last_joined first xs ys);
  count =
      ap (λ k. k + n) a.count ∙ ap (λ k. length xs + k) b.count ∙ sym (length-append xs ys);
  wrote =
      subst (λ text. Appends before.taken after.taken text) (sym (written_joined xs ys))
      (Appends-append before.taken mid.taken after.taken (concat (written xs)) (concat (written ys)) a.wrote b.wrote);
}

-- a fault's line with its end
pub one_written : (f : Fault) (line ended : List ℕ) → IsLineOf line f → ended ≡ line ++ codes "\n"
    → ended ≡ concat (written (f ∷ []))
one_written f line ended is ends =
    ends ∙ ap (λ text. text ++ codes "\n") (sym is.text) ∙ sym (append-nil (written_line f))

-- one more line was read
pub read_one : (start old new line ended : List ℕ) (faults : List Fault) (f : Fault) → IsLineOf line f
    → ended ≡ line ++ codes "\n" → old ≡ start ++ concat (written faults) → new ≡ old ++ ended
    → new ≡ start ++ concat (written (faults ++ f ∷ []))
read_one start old new line ended faults f is ends so_far next =
    next ∙ ap (λ text. text ++ ended) so_far ∙ append_assoc start (concat (written faults)) ended
    ∙ ap (λ text. start ++ text)
    (ap (λ text. concat (written faults) ++ text) (one_written f line ended is ends)
    ∙ sym (written_joined faults (f ∷ [])))

-- one fault, whose line was written
pub writes_one : (last : Option Fault) (before after : OutState) (f : Fault) (line ended : List ℕ) → IsLineOf line f
    → IsAfter last f → ended ≡ line ++ codes "\n" → Appends before.taken after.taken ended
    → WritesFaults last (Some f) before after 1 (f ∷ [])
writes_one last before after f line ended is above ends wrote = record {
  in_order = (is.fault, above, tt);
  last_is = refl;
  count = refl;
  wrote = subst (λ text. Appends before.taken after.taken text) (one_written f line ended is ends) wrote;
}

above_all : (g x : Fault) → fault_cmp g x ≡ Less → (xs : List Fault) → AreAfter (Some x) xs
    → AllByRecursion (λ y. fault_cmp g y ≡ Less) xs
above_all g x less [] p = tt
above_all g x less (y ∷ ys) p =
    let far : fault_cmp g y ≡ Less = fault_cmp_total.trans g x y less p.1 in
    (far, above_all g y far ys p.2)

above_first : (x : Fault) (xs : List Fault) → AreAfter (Some x) xs → AllByRecursion (λ y. fault_cmp x y ≡ Less) xs
above_first x [] p = tt
above_first x (y ∷ ys) p = (p.1, above_all x y p.1 ys p.2)

-- each stands after all before it
pub are_sorted : (last : Option Fault) (xs : List Fault) → AreAfter last xs → IsStrictlySortedBy fault_cmp xs
unfolding IsStrictlySortedBy
are_sorted last [] p = tt
are_sorted last (x ∷ xs) p = (above_first x xs p.2, are_sorted (Some x) xs p.2)

-- and is a fault
pub are_faults : (last : Option Fault) (xs : List Fault) → AreAfter last xs → (f : Fault) → Contains xs f → IsFault f
are_faults last [] p f c = absurd (contains_nothing f c)
are_faults last (x ∷ xs) p f c =
    elim (contains_cases x xs f c) [ inl e ↦ subst IsFault e p.0 | inr d ↦ are_faults (Some x) xs p.2 f d ]

-- none yet
pub writes_none : (last : Option Fault) (out : OutState) → WritesFaults last last out out 0 []
writes_none last out = record { in_order = tt; last_is = refl; count = refl; wrote = Appends-nil out.taken }
