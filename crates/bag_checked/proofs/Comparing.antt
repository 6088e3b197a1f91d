-- Digests were computed of bytes, and compared with those that are expected.
use Rattle.bag_checked.proofs.Common.{◌≡◌, ◌∙◌, ◌∷◌, inr, ℕ, List, [], Option, Contains, ap, Alg}
use Rattle.std.specs.Prelude.{Result, Ok, Err, IfErr, IfOk, OnOk}
use Rattle.bag_stages.specs.SumFaults.{AreSumsBy, faults_of_bytes}
use Rattle.bag_stages.specs.Expected.{Expected}
use Rattle.bag_tree.specs.DigestsOf.{AreSumsOf, sum_at}
use Rattle.bag_tree.specs.Tree.{TreeState}
use Rattle.bag_tree.specs.declared.listing.FileEntry.{FileEntry}
use Rattle.bag_checked.specs.Checked.{AreReadOnce, DiffersFirst, IsChecked, IsCheckedAs, IsRead, IsUnchecked}
use Rattle.bag_checked.specs.OneReading.{IsLeftUnchecked}
use Rattle.bag_checked.proofs.Stopping.{stop_of_difference}
use Rattle.bag_checked.specs.declared.checked.Unchecked.{Unchecked}
use Rattle.bag_checked.specs.declared.checked.Unchecked.TheVariants.{Faulty, Stopped}

module _ (old new : TreeState) (entry : FileEntry) (expected : List Expected) (algs asked : List Alg)
    (content : List ℕ) (sums : List (Option (List ℕ))) (once : AreReadOnce (entry ∷ []) old new)
    (read : IsRead old new entry content) (of : AreSumsOf asked content sums) (given : (one : Expected) → Contains expected one → Contains asked one.alg)
    (kept : (alg : Alg) → Contains algs alg → Contains asked alg) where
  by_expected : AreSumsBy expected content sums
  by_expected one d = of.each one.alg (given one d)

  -- they are those
  pub is_checked : (found : List (Option (List ℕ))) → found ≡ sums
      → ((bytes : List ℕ) → AreSumsBy expected bytes sums → faults_of_bytes entry.path bytes expected ≡ [])
      → IsCheckedAs old new entry expected algs content found
  is_checked found same right = record {
    once = once;
    read = read;
    right = right content by_expected;
    sums_of = λ alg has. ap (λ some. sum_at some alg) same ∙ of.each alg (kept alg has);
  }

  pub all_checked : (result : Result (List (Option (List ℕ))) Unchecked) → IfOk result (λ found. found ≡ sums)
      → OnOk result ((bytes : List ℕ) → AreSumsBy expected bytes sums → faults_of_bytes entry.path bytes expected ≡ [])
      → IfOk result (IsChecked old new entry expected algs)
  all_checked (Ok found) same right = (content, is_checked found same right)
  all_checked (Err e) same right = tt

  -- or they aren't
  is_unchecked : (e : Unchecked) → DiffersFirst entry.path expected sums e → IsUnchecked old new entry expected e
  is_unchecked (Stopped stop) h = tt
  is_unchecked (Faulty fault) h = let first = h content by_expected in (content, first.0, read, first.1)

  pub left_unchecked : (e : Unchecked) → DiffersFirst entry.path expected sums e
      → IsLeftUnchecked entry expected old new e
  left_unchecked e h = record {
    opens = inr once.opened;
    differs = is_unchecked e h;
    stopped = stop_of_difference (entry ∷ []) old new entry.path expected sums e h once.no_failure;
  }

  pub all_unchecked : (result : Result (List (Option (List ℕ))) Unchecked)
      → IfErr result (DiffersFirst entry.path expected sums) → IfErr result (IsLeftUnchecked entry expected old new)
  all_unchecked (Ok found) h = tt
  all_unchecked (Err e) h = left_unchecked e h
