use Rattle.radio.specs.Airs.{sought}
use Rattle.tries.specs.Turns.{heard_sky, barred}
use Rattle.tries.proofs.Words.{tries}
use Rattle.selector.specs.Runs.{run_order}
use Rattle.run_laws.proofs.Ends.{registered_by, registers}
use Rattle.run_laws.proofs.Lawful.{runs_try, runs_keep_off, trail_is_fixed}
use Rattle.run_laws.proofs.Runs.{no_turn, no_service}
use Rattle.run_laws.proofs.laws.run_laws.Goals as goal

pub returns : goal.returns
returns c = record {
  tries_those_open = λ s fs a draw. tries (barred s.roaming s.regional) (heard_sky (sought a).here) (run_order s fs (sought a) draw);
  registers_on_last_tried = λ s fs a draw. (
    registered_by (barred s.roaming s.regional) (heard_sky (sought a).here) (sought a) (run_order s fs (sought a) draw),
    registers (barred s.roaming s.regional) (heard_sky (sought a).here) (sought a) (run_order s fs (sought a) draw),
  );
  no_service_if_order_empty = λ s fs a draw. (no_turn s (sought a) (run_order s fs (sought a) draw), no_service s (sought a) (run_order s fs (sought a) draw));
  tries_open_rows_in_order = runs_try;
  never_tries_forbidden = runs_keep_off;
  trail_is_fixed = trail_is_fixed;
}
