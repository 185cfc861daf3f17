-- Packets in range can be at each switch of a text's program.
use Rattle.nk_names.specs.ReadBack.{DeclaresWritable}
use Rattle.nk_names.specs.Topologies.{DeclaresDeclarable}
use Rattle.nk_uniqueness.specs.Texts.{TextsHavePackets}
use Rattle.nk_uniqueness.proofs.Having.{program_has}

pub texts_have : DeclaresWritable → DeclaresDeclarable → TextsHavePackets
texts_have writable declarable text ts ds s cut read means =
    program_has s.fields s.topo (writable text ts ds s cut read means).table (declarable ts ds s read means)
