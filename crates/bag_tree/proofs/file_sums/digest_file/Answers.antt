use Rattle.bag_tree.proofs.file_sums.digest_file.Goals as goal

pub returns-clause-sums : goal.returns-clause-sums
returns-clause-sums g c =
    let read = c.in_ok-read_file.ensures.taken in
    let taken = read.taken c.args.algs c.new-digests.ensures in
    record {
      content = read.content;
      bytes = taken.bytes;
      size = read.size;
      sums_of = c.finish.ensures c.args.algs read.content taken;
      gave = read.gave;
      honest = read.honest;
    }
