-- What is read of lines, each by itself: the lists of what reads and of what doesn't.
use Rattle.bag_read.proofs.Common.{Err, List, Ok, Option, Result, Some, [], arith, false, refl, ℕ, ◌+◌, ◌∷◌, ◌≡◌, ◌≤◌}
use Rattle.bag_read.proofs.Common.{enumerate_from, nat_cmp, on, Contains, filter_map, Ordering, Less, contains_cases}
use Rattle.bag_read.proofs.Common.{contains_nothing, each_from_members, same_members, line_is_numbered}
use Rattle.bag_read.proofs.Common.{numbered_is_line, IsLine, IsListOf, is_blank_line, AreFaults, entries_read, entry_of}
use Rattle.bag_read.proofs.Common.{fault_of, faults_read, line_fault_cmp, Reason, LineFault, IsStrictlySortedBy}
use Rattle.bag_read.proofs.FaultOrder.{less}
use Rattle.bag_read.proofs.PickedOut.{picked, is_picked, ascending_picked}

-- lines with their numbers ascend
abbrev pub number_cmp : ℕ × List ℕ → ℕ × List ℕ → Ordering
number_cmp = on (λ x. x.0) nat_cmp

number_from : (n : ℕ) (all : List (List ℕ)) (x : ℕ × List ℕ) → Contains (enumerate_from n all) x → n ≤ x.0
number_from n [] x c = absurd (contains_nothing x c)
number_from n (line ∷ more) x c =
    grind (arith, contains_cases (n, line) (enumerate_from (n + 1) more) x c, number_from (n + 1) more x)

pub numbers_ascend : (n : ℕ) (all : List (List ℕ)) → IsStrictlySortedBy number_cmp (enumerate_from n all)
unfolding IsStrictlySortedBy
numbers_ascend n [] = tt
numbers_ascend n (line ∷ more) = (
  each_from_members (λ x. number_cmp (n, line) x ≡ Less) (enumerate_from (n + 1) more)
      (λ x c. let above = number_from (n + 1) more x c in less n x.0 (omega arith)),
  numbers_ascend (n + 1) more,
)

-- what is picked out of numbered lines, in an order that goes by the lines
module _ {B : Type 0} (f : ℕ × List ℕ → Option B) (order : B → B → Ordering)
    (keeps : (x y : ℕ × List ℕ) (u v : B) → f x ≡ Some u → f y ≡ Some v → number_cmp x y ≡ Less → order u v ≡ Less)
    (all : List (List ℕ)) where
  abbrev IsFrom : B → Type 0
  IsFrom b = (n : ℕ) × (line : List ℕ) × IsLine all n line × (f (n, line) ≡ Some b)

  from_lines : IsListOf order IsFrom (filter_map f (enumerate_from 1 all))
  from_lines = record {
    ascending = ascending_picked f number_cmp order keeps (enumerate_from 1 all) (numbers_ascend 1 all);
    members =
        λ b. (
          λ c. let (x, has, is) = picked f _ b c
              in (x.0, x.1, numbered_is_line all x.0 x.1 has, is),
          λ (n, line, at, is).
              is_picked f _ (n, line) b (line_is_numbered all n line at) is,
        );
  }

module _ {E : Type 0} (reads : ℕ → List ℕ → Result E Reason) where
  -- a line that reads so
  abbrev pub ReadsSo : ℕ → List ℕ → Result E Reason → Type 0
  ReadsSo n line r = (is_blank_line line ≡ false) × (reads n line ≡ r)

  entry_is : (x : ℕ × List ℕ) (e : E) → entry_of reads x ≡ Some e → ReadsSo x.0 x.1 (Ok e)
  entry_is x e h = grind (arith, is_blank_line)

  fault_is : (x : ℕ × List ℕ) (f : LineFault) → fault_of reads x ≡ Some f
      → (f.line ≡ x.0) × ReadsSo x.0 x.1 (Err (f.code, f.detail))
  fault_is x f h = grind (arith, is_blank_line)

  faults_rise : (x y : ℕ × List ℕ) (u v : LineFault) → fault_of reads x ≡ Some u → fault_of reads y ≡ Some v
      → number_cmp x y ≡ Less → line_fault_cmp u v ≡ Less
  faults_rise x y u v e f h = grind (arith, fault_is)

  module _ (all : List (List ℕ)) where
    -- the fault of a line that doesn't read
    abbrev pub IsUnread : LineFault → Type 0
    IsUnread f = (line : List ℕ) × IsLine all f.line line × ReadsSo f.line line (Err (f.code, f.detail))

    pub faults_listed : AreFaults IsUnread (faults_read reads all)
    faults_listed =
        same_members line_fault_cmp _ IsUnread _ (λ f (n, line, at, is).
        let (same, read) = fault_is (n, line) f is in rw same (line, at, read))
        (λ f (line, at, (some, is)). (f.line, line, at, rw (some, is) refl))
        (from_lines (fault_of reads) line_fault_cmp faults_rise all)

    module _ (line_of : E → ℕ) where
      -- what a line says that reads
      abbrev pub IsRead : E → Type 0
      IsRead e = (line : List ℕ) × IsLine all (line_of e) line × ReadsSo (line_of e) line (Ok e)

      module _ (numbered : (n : ℕ) (line : List ℕ) (e : E) → reads n line ≡ Ok e → line_of e ≡ n) where
        entries_rise : (x y : ℕ × List ℕ) (u v : E) → entry_of reads x ≡ Some u → entry_of reads y ≡ Some v
            → number_cmp x y ≡ Less → nat_cmp (line_of u) (line_of v) ≡ Less
        entries_rise x y u v e f h = rw (numbered x.0 x.1 u (entry_is x u e).1, numbered y.0 y.1 v (entry_is y v f).1) h

        pub entries_listed : IsListOf (on line_of nat_cmp) IsRead (entries_read reads all)
        entries_listed =
            same_members (on line_of nat_cmp) _ IsRead _ (λ e (n, line, at, is).
            let read = entry_is (n, line) e is in rw (numbered n line e read.1) (line, at, read))
            (λ e (line, at, (some, is)). (line_of e, line, at, rw (some, is) refl))
            (from_lines (entry_of reads) (on line_of nat_cmp) entries_rise all)
