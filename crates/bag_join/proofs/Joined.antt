-- Reports of parts, joined one after another.
use Rattle.std.proofs.Common.{◌≡◌, ℕ, ◌+◌, ◌<◌, ◌≤◌, ◌++◌, ◌∷◌, List, [], Option, None, Some, length, refl, sym, ap}
use Rattle.std.proofs.Common.{◌∙◌, subst, arith, suc, append_assoc, append-nil, length-append, add-zero}
use Rattle.std.specs.List.{concat}
use Rattle.std.specs.Io.KnownBytes.{Appends}
use Rattle.bag_tree.proofs.Writing.{Appends-append, Appends-nil}
use Rattle.bag_tree.specs.Out.{OutState}
use Rattle.std.specs.Prelude.{Bool, true, false, ◌&&◌, nat_lt, nat_le, if◌then◌else◌}
use Rattle.bag_faults.specs.Part.{Part, part_at}
use Rattle.bag_faults.specs.declared.fault.Fault.{Fault}
use Rattle.bag_walk.specs.Ending.{ended, written}
use Rattle.bag_reports.specs.DoneLine.{line_for}
use Rattle.bag_reports.specs.Faults.{WritesFaults}
use Rattle.bag_reports.specs.Head.{AreKeys, head_of}
use Rattle.bag_reports.specs.Reports.{Opens, ReadsOn, ReportsState, all_given}
use Rattle.bag_reports.specs.declared.done_line.Subject.{Subject}
use Rattle.bag_reports.proofs.Faults.{are_faults, are_sorted, writes_on}
use Rattle.bag_join.specs.Join.{all_faults, full_closing, part_report, AreFilesFrom, IsFileOf, IsJoined}
use Rattle.bag_join.specs.Join.{JoinsFirst, JoinsPart}

pub faults_joined : (parts : List (List Fault)) (faults : List Fault)
    → all_faults (parts ++ faults ∷ []) ≡ all_faults parts ++ faults
faults_joined [] faults = append-nil faults
faults_joined (part ∷ parts) faults =
    ap (λ rest. part ++ rest) (faults_joined parts faults) ∙ sym (append_assoc part (all_faults parts) faults)

abbrev pub part_numbered : ℕ → ℕ → Part
part_numbered number of = record { number = number; of = of }

next_number : (k n : ℕ) → k + 1 + n ≡ k + suc n
next_number k n = omega arith

files_joined : (subject : Subject) (of : ℕ) (k : ℕ) (texts : List (List ℕ)) (parts : List (List Fault)) (text : List ℕ)
    (faults : List Fault) → AreFilesFrom subject of k texts parts
    → IsFileOf subject (part_numbered (k + length parts) of) faults text
    → AreFilesFrom subject of k (texts ++ text ∷ []) (parts ++ faults ∷ [])
files_joined subject of k [] [] text faults are is =
    (subst (λ n. IsFileOf subject (part_numbered n of) faults text) (add-zero k) is, tt)
files_joined subject of k [] (part ∷ parts) text faults are is = absurd are
files_joined subject of k (first ∷ texts) [] text faults are is = absurd are
files_joined subject of k (first ∷ texts) (part ∷ parts) text faults are is = (
  are.0,
  files_joined subject of (k + 1) texts parts text faults are.1
      (subst (λ n. IsFileOf subject (part_numbered n of) faults text) (sym (next_number k (length parts))) is),
)

-- a report that was opened, read to its end and found whole
pub joins_part : (subject : Subject) (part : Part) (old opened mid new : ReportsState)
    (last new_last : Option Fault) (before after : OutState) (n number : ℕ) (start passed line : List ℕ)
    (faults : List Fault) (keys : List (List ℕ)) → AreKeys keys → Opens old opened number → start ≡ []
    → ReadsOn opened mid → ReadsOn mid new
    → passed ≡ start ++ (head_of keys ++ (concat (written faults) ++ line)) → line ≡ line_for subject part n
    → new.given ≡ passed → WritesFaults last new_last before after n faults
    → JoinsPart subject part old new last new_last before after n
joins_part subject part old opened mid new last new_last before after n number start passed line faults keys are opens none
    first second reads closes ends wrote =
    let earlier : new.earlier ≡ all_given old = second.earlier ∙ first.earlier ∙ opens.earlier in
    let given : new.given ≡ head_of keys ++ part_report subject part faults =
    ends ∙ reads ∙ ap (λ t. t ++ (head_of keys ++ (concat (written faults) ++ line))) none
    ∙ ap (λ t. head_of keys ++ (concat (written faults) ++ t)) (closes ∙ ap (λ k. line_for subject part k) wrote.count) in
    record {
      faults = faults;
      text = new.given;
      is_file = record { keys = keys; are = are; text_is = given };
      read = ap (λ e. e ++ new.given ∷ []) earlier;
      wrote = wrote;
    }

-- before the first part
pub joins_none : (subject : Subject) (of : ℕ) (state : ReportsState) (out : OutState)
    → JoinsFirst subject of state state None out out 0 0
joins_none subject of state out = record {
  parts = [];
  are_first = refl;
  texts = [];
  are_files = tt;
  read = sym (append-nil (all_given state));
  wrote =
      record { in_order = tt; last_is = refl; count = refl; wrote = Appends-nil out.taken };
}

-- one part more
pub joins_more : (subject : Subject) (of : ℕ) (old mid new : ReportsState)
    (mid_last last : Option Fault) (before between after : OutState) (k m n : ℕ)
    → JoinsFirst subject of old mid mid_last before between k m
    → JoinsPart subject (part_numbered k of) mid new mid_last last between after n
    → JoinsFirst subject of old new last before after (k + 1) (m + n)
joins_more subject of old mid new mid_last last before between after k m n first next =
    let size : length first.parts ≡ k = first.are_first in
    let place : k ≡ 0 + length first.parts = omega arith in
    let read : all_given new ≡ all_given old ++ (first.texts ++ next.text ∷ []) =
    next.read ∙ ap (λ given. given ++ next.text ∷ []) first.read
    ∙ append_assoc (all_given old) first.texts (next.text ∷ []) in
    record {
      parts = first.parts ++ next.faults ∷ [];
      are_first = omega (arith, length-append first.parts (next.faults ∷ []));
      texts = first.texts ++ next.text ∷ [];
      are_files =
          files_joined subject of 0 first.texts first.parts next.text next.faults first.are_files
          (subst (λ n. IsFileOf subject (part_numbered n of) next.faults next.text) place next.is_file);
      read = read;
      wrote =
          subst (λ faults. WritesFaults None last before after (m + n) faults)
          (sym (faults_joined first.parts next.faults))
          (writes_on None mid_last last before between after m n (all_faults first.parts) next.faults first.wrote
          next.wrote);
    }

-- all parts, and the closing line
pub joins_all : (subject : Subject) (of : ℕ) (old new : ReportsState) (last : Option Fault)
    (before between after : OutState) (n : ℕ) → 0 < of → of ≤ 65536
    → JoinsFirst subject of old new last before between of n
    → Appends between.taken after.taken (full_closing subject.name n)
    → IsJoined (all_given new) before after (ended None n)
joins_all subject of old new last before between after n some most first closes =
    let size : length first.parts ≡ of = first.are_first in
    let count = first.wrote.count in
    record {
      subject = subject;
      parts = first.parts;
      some = omega arith;
      most = omega arith;
      earlier = all_given old;
      texts = first.texts;
      read = first.read;
      are_files = subst (λ k. AreFilesFrom subject k 0 first.texts first.parts) (sym size) first.are_files;
      are_faults = are_faults None (all_faults first.parts) first.wrote.in_order;
      in_order = are_sorted None (all_faults first.parts) first.wrote.in_order;
      wrote =
          Appends-append before.taken between.taken after.taken (concat (written (all_faults first.parts)))
          (full_closing subject.name (length (all_faults first.parts))) first.wrote.wrote
          (subst (λ k. Appends between.taken after.taken (full_closing subject.name k)) count closes);
      ends = ap (λ k. ended None k) count;
    }

only_some : {A : Type 0} (b : Bool) (x y : A) → (if b then Some x else None) ≡ Some y → y ≡ x
only_some true x y e = let same : x ≡ y = cc in sym same
only_some false x y e = cc

-- the part with a number
pub part_is : (number of : ℕ) (part : Part) → part_at number of ≡ Some part → part ≡ part_numbered number of
part_is number of part e = only_some (nat_lt number of && nat_le of 65536) (part_numbered number of) part e
