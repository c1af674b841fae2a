use Rattle.std.proofs.Common.{ap, rules}
use Rattle.mask_places.specs.Masks.{Both}
use Rattle.masked_radio.proofs.Mapped.{spot_map}
use Rattle.masked_radio.proofs.registrar.cell_below.Goals as goal

pub returns : goal.returns
returns g c = record {
  value = search (rules, spot_map);
  air = ap (λ (b : Both). b.air) c.place_below.ensures.same;
  sky = ap (λ (b : Both). b.sky) c.place_below.ensures.same;
}
