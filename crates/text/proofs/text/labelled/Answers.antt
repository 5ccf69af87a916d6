use mathlib.Core.Path.{refl}
use Rattle.text.proofs.text.Steps.{text_written}
use Rattle.text.proofs.text.labelled.Goals as goal

pub returns : goal.returns
returns g c = text_written _ _ _ _ _ _ _ _ _ _ c.put_text-from.ensures c.decimal.ensures refl refl
