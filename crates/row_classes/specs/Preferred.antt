-- The facts that a `Preferences` holds.
use Rattle.entry_list.specs.Lists.{list_of}
use Rattle.subscriber.specs.Codes.{codes_in}
use Rattle.row_classes.specs.Facts.{Facts}
use Rattle.row_classes.specs.declared.facts.Preferences.{Preferences}

abbrev pub facts_of : Preferences → Facts
facts_of p = record {
  supported = p.supported.bits;
  registered = p.card.registered;
  equivalents = codes_in p.equivalents;
  home = codes_in p.card.home;
  forbidden = codes_in p.card.forbidden;
  user = list_of p.card.user;
  operator = list_of p.card.operator;
}
