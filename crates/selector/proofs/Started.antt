-- The start of a run: what was read is what the card says, so the tries are those of the rules.
use Rattle.std.proofs.Common.{◌≡◌, ℕ, List, ◌++◌, length, take, drop, Option, unwrap_or, sym, ap, ◌∙◌}
use Rattle.std.proofs.lemmas.List.{take-append-drop}
use Rattle.plmn.specs.Codes.{empty_code}
use Rattle.plmn.specs.declared.code.Code.{Code}
use Rattle.plmn.specs.declared.technology.TechnologySet.{TechnologySet}
use Rattle.card.specs.Files.{File, Files, bytes_of, home_file, location_file, user_file, operator_file}
use Rattle.radio.specs.Airs.{Air, sought}
use Rattle.entry_list.specs.Entries.{entries, short_entry}
use Rattle.entry_list.specs.Lists.{list_of}
use Rattle.entry_list.specs.declared.listed.Listed.{Listed}
use Rattle.subscriber.specs.Codes.{codes_in, codes_of, home_codes}
use Rattle.subscriber.specs.Identities.{registered_in}
use Rattle.subscriber.specs.Subscribers.{Identified, Reads, short_kind_list, full_kind_list}
use Rattle.subscriber.specs.Codes.{CodeList}
use Rattle.subscriber.specs.declared.identity.Identity.{Identity}
use Rattle.subscriber.specs.declared.identity.Subscriber.{Subscriber}
use Rattle.ranking.specs.declared.key.Key.{Key}
use Rattle.order.specs.Facts.{Facts}
use Rattle.order.specs.Preferred.{facts_of}
use Rattle.selector.specs.Runs.{home_of, forbidden_of, facts_in, run_order, tried_places, tried_air, tried_standing, tried_files, run_places, run_standing, run_files, run_air, trailed}
use Rattle.states.specs.Standings.{Standing}

module _ (fs : Files) (i : Identity) (s : Subscriber) (known : Identified fs i) (reads : Reads fs i s) where
  pub home_is : codes_in s.home ≡ home_of fs
  home_is = reads.home ∙ ap (λ (o : Option Code). home_codes (short_kind_list fs home_file) (unwrap_or o empty_code)) (sym known.imsi_code)

  pub forbidden_is : codes_in s.forbidden ≡ forbidden_of fs
  forbidden_is = reads.forbidden ∙ ap (λ (f : File). codes_of (entries 3 short_entry (bytes_of f))) known.forbidden

  registered_is : s.registered ≡ registered_in (bytes_of (fs location_file))
  registered_is = reads.registered ∙ ap (λ (f : File). registered_in (bytes_of f)) known.location

  same_facts : (n n' : ℕ) (r r' : Option Code) (e e' h h' f f' : List Code) (u u' o o' : List Listed) → n ≡ n' → r ≡ r' → e ≡ e' → h ≡ h' → f ≡ f' → u ≡ u' → o ≡ o' →
      ◌≡◌ {A = Facts} (record { supported = n; registered = r; equivalents = e; home = h; forbidden = f; user = u; operator = o })
      (record { supported = n'; registered = r'; equivalents = e'; home = h'; forbidden = f'; user = u'; operator = o' })
  same_facts n n' r r' e e' h h' f f' u u' o o' pn pr pe ph pf pu po = cc

  pub facts_are : (t : Standing) (equivalents : CodeList) (supported : TechnologySet) → supported.bits ≡ t.supported → codes_in equivalents ≡ t.equivalents →
      facts_of (record { card = s; equivalents = equivalents; supported = supported }) ≡ facts_in t fs
  facts_are t equivalents supported es ee =
      same_facts supported.bits t.supported s.registered (registered_in (bytes_of (fs location_file))) (codes_in equivalents) t.equivalents (codes_in s.home) (home_of fs) (codes_in s.forbidden) (forbidden_of fs)
      (list_of s.user) (full_kind_list fs user_file) (list_of s.operator) (full_kind_list fs operator_file) es registered_is ee home_is forbidden_is reads.user reads.operator

-- tries over an order that is the run's, from an air that is the run's, are the run's
module _ (t : Standing) (fs : Files) (a b : Air) (draw : ℕ) (ord : List Key) (home forbidden : List Code)
    (eo : ord ≡ run_order t fs (sought a) draw) (eb : b ≡ sought a) (eh : home ≡ home_of fs) (ef : forbidden ≡ forbidden_of fs) where
  pub places_are : tried_places t ord b ≡ run_places t fs a draw
  places_are = ap (λ (o : List Key). tried_places t o b) eo ∙ ap (λ (x : Air). tried_places t (run_order t fs (sought a) draw) x) eb

  pub standing_is : tried_standing t home forbidden ord b ≡ run_standing t fs a draw
  standing_is =
      ap (λ (h : List Code). tried_standing t h forbidden ord b) eh
      ∙ (ap (λ (f : List Code). tried_standing t (home_of fs) f ord b) ef
      ∙ (ap (λ (o : List Key). tried_standing t (home_of fs) (forbidden_of fs) o b) eo
      ∙ ap (λ (x : Air). tried_standing t (home_of fs) (forbidden_of fs) (run_order t fs (sought a) draw) x) eb))

  pub files_are : (gs : Files) → gs ≡ fs → tried_files t home forbidden ord b gs ≡ run_files t fs a draw
  files_are gs eg =
      ap (λ (h : List Code). tried_files t h forbidden ord b gs) eh
      ∙ (ap (λ (f : List Code). tried_files t (home_of fs) f ord b gs) ef
      ∙ (ap (λ (o : List Key). tried_files t (home_of fs) (forbidden_of fs) o b gs) eo
      ∙ (ap (λ (x : Air). tried_files t (home_of fs) (forbidden_of fs) (run_order t fs (sought a) draw) x gs) eb
      ∙ ap (λ (g : Files). tried_files t (home_of fs) (forbidden_of fs) (run_order t fs (sought a) draw) (sought a) g) eg)))

  pub air_is : tried_air b (tried_places t ord b) ≡ run_air t fs a draw
  air_is = ap (λ (x : Air). tried_air x (tried_places t ord b)) eb ∙ ap (tried_air (sought a)) places_are

-- a trail by its front and its rest
pub trailed_is : (n : ℕ) (places before after : List ℕ) → n ≡ length places → take n after ≡ places → drop n after ≡ drop n before → after ≡ trailed places before
trailed_is n places before after e f r =
    sym (take-append-drop n after) ∙ (ap (λ (z : List ℕ). z ++ drop n after) f ∙ (ap (λ (z : List ℕ). places ++ z) r ∙ ap (λ (k : ℕ). places ++ drop k before) e))
