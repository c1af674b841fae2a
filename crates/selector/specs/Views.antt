-- What the program's selectors mean.
use Rattle.subscriber.specs.Codes.{codes_in}
use Rattle.states.specs.Standings.{Resting, Standing}
use Rattle.selector.specs.declared.switched.Off.{Off}
use Rattle.selector.specs.declared.switched.On.{On}

abbrev pub resting : Off → Resting
resting o = record { supported = o.settings.supported.bits; mode = o.mode; equivalents = codes_in o.equivalents }

abbrev pub standing : On → Standing
standing o = record {
  supported = o.settings.supported.bits;
  mode = o.mode;
  state = o.state;
  equivalents = codes_in o.equivalents;
  roaming = o.roaming;
  regional = o.regional;
}
