use Rattle.std.proofs.Common.{◌≡◌, ◌∷◌, ◌∙◌, ℕ, List, [], length, map, All, IsTrue, ap, sym, subst, rules}
use Rattle.std.proofs.lemmas.Iterator.Adapters.{YieldsList-from_vec}
use Rattle.std.proofs.lemmas.Iterator.Consumers.{YieldsList-end}
use Rattle.std.proofs.lemmas.List.{map-id}
use Rattle.std.proofs.lemmas.List.Elements.{All-cons, All-head, All-nil, All-tail}
use Rattle.std.specs.List.Sorted.{IsStrictlySortedBy}
use Rattle.std.specs.Vec.Iter.{into_iter_items}
use Rattle.bag_text.specs.Path.{is_path}
use Rattle.bag_text.specs.Text.{text_cmp}
use Rattle.bag_disk.specs.FolderWalk.{walked_paths}
use Rattle.test_reports.proofs.listings.resized.Goals as goal

-- what holds of the texts of some items holds of items with the same texts
held_by_same : {A : Type 0} (key : A → List ℕ) (P : List ℕ → Type 0) (xs ys : List A) → map key xs ≡ map key ys
    → All (λ y. P (key y)) ys → All (λ x. P (key x)) xs
held_by_same key P [] ys same all = All-nil (λ x. P (key x))
held_by_same key P (x ∷ xs) [] same all = cc
held_by_same key P (x ∷ xs) (y ∷ ys) same all =
    let head : key x ≡ key y = cc in
    let tail : map key xs ≡ map key ys = cc in
    All-cons (λ x. P (key x)) x xs (subst P (sym head) (All-head (λ y. P (key y)) y ys all))
    (held_by_same key P xs ys tail (All-tail (λ y. P (key y)) y ys all))

pub returns : goal.returns
returns g c =
    let items = c.args.files.items in
    let source = c.into_iter-file-iterator.result in
    let same : into_iter_items source ≡ items = search (rules, c.into_iter-file-iterator.ensures.into_iter_gives) in
    let all = YieldsList-from_vec items same (source.rest.ok.0 ∙ ap length same) in
    let end =
    YieldsList-end all c.loop-file.yielded c.loop-file.file-iterator c.loop-file.yielded_by c.next.result
    c.next.new.self c.in-None.is c.next.ensures.steps in
    let paths = c.loop-file.invariant ∙ ap walked_paths (sym (map-id c.loop-file.yielded) ∙ end.0) in record {
      ascending = subst (IsStrictlySortedBy text_cmp) (sym paths) c.requires.ascending;
      paths =
          held_by_same (λ entry. entry.path) (λ path. IsTrue (is_path path)) c.loop-file.resized items paths
          c.requires.paths;
    }
