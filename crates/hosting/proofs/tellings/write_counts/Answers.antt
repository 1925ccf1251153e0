use Rattle.hosting.proofs.Writings.{gives_counts}
use Rattle.hosting.proofs.tellings.write_counts.Goals as goal

pub returns : goal.returns
returns c =
    gives_counts c.args.counts _ _ _ _ _ _ _ _ _ _ _ _ _ c.in_ok-words.ensures.items c.in_ok-extend_from_slice.ensures.items c.in_ok-extend_from_slice-2.ensures.items
    c.in_ok-extend_from_slice-3.ensures.items c.in_ok-extend_from_slice-4.ensures.items c.in_ok-extend_from_slice-5.ensures.items c.bytes_of.ensures c.bytes_of-2.ensures
    c.bytes_of-3.ensures c.bytes_of-4.ensures c.bytes_of-5.ensures c.as_slice.ensures.value c.write_framed.ensures
