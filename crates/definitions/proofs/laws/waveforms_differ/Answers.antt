-- Different symbols have different waveforms.
use Rattle.definitions.proofs.WaveLaws.{waveforms_differ}
use Rattle.definitions.proofs.laws.waveforms_differ.Goals as goal

pub returns : goal.returns
returns c = waveforms_differ
