use Rattle.bag_disk.proofs.Common.{IsTrue, refl, sym, ◌∙◌, false≢true, All-permutation, is_path}
use Rattle.bag_disk.proofs.listing.listing_of.Goals as goal

pub returns-clause-ordered : goal.returns-clause-ordered
returns-clause-ordered c = rw c.from_vec.ensures (record {
  ascending = rw c.as_slice-2.ensures.value at (c.all_differ.ensures.0 c.if-not-all_differ.false);
  paths = All-permutation (λ file. IsTrue (is_path file.path)) _ _ c.sort_by_path.ensures.permutation c.requires;
})

pub returns-clause-files : goal.returns-clause-files
returns-clause-files c = rw c.from_vec.ensures c.sort_by_path.ensures.permutation

pub returns-then-not-all_differ-clause-refused : goal.returns-then-not-all_differ-clause-refused
returns-then-not-all_differ-clause-refused c = (
  refl,
  record {
    sorted = c.sort_by_path.new.items.items;
    same = c.sort_by_path.ensures.permutation;
    in_order = c.in_ok-sort_by_path.ensures.sorted;
    twice = λ strict.
        false≢true (sym c.if-not-all_differ.true ∙ c.all_differ.ensures.1 (rw c.as_slice-2.ensures.value strict));
  },
)
