-- `offset_couplings` works out the 23 couplings, by how far the destination lies above the source.
use Rattle.std.proofs.Common.{rules}
use Rattle.std.specs.Float.{nan}
use Rattle.waveforms.specs.Waveforms.{coupling}
use Rattle.waveforms.proofs.Arrays.{from_fn_builds}
use Rattle.waveforms.proofs.offset_couplings.Goals as goal

pub returns : goal.returns
returns c =
    from_fn_builds _ (λ k. coupling c.args.selection k 11) 23 _ nan _ c.from_fn.ensures.items (λ k x q h e. search rules)
