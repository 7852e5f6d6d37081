-- Rows of SQL as typed records, one more at a time.
use Rattle.std.proofs.Common.{◌≡◌, ◌∙◌, List, [], ◌∷◌, ◌++◌, map, refl, sym, ap, subst}
use Rattle.std.proofs.lemmas.List.{map-append}
use Rattle.sqlite.specs.Order.{Row}
use Rattle.sqlite_trees.proofs.ListLemmas.{all-append}
use Rattle.docket_scan.specs.Records.{AreRecords, IsTable}
use Rattle.docket_scan.specs.Taken.{IsRead}

module _ {R : Type 0} (Is : R → Type 0) (cells : R → Row) where
  -- where rows go on, so do their records
  pub record GoesOn (rows : List Row) (row : Row) (more : List Row) (all : List R) : Type 0 where
    pub front : List R
    pub next : R
    pub rest : List R
    pub whole : all ≡ front ++ next ∷ rest
    pub before : AreRecords Is cells front rows
    pub held : Is next
    pub is : row ≡ cells next
    pub after : more ≡ map cells rest

  pub goes_on : (rows : List Row) (row : Row) (more : List Row) (all : List R) → AreRecords Is cells all (rows ++ row ∷ more) → GoesOn rows row more all
  goes_on [] row more [] are = absurd (let e = are.same in cc)
  goes_on [] row more (x ∷ xs) are = record {
    front = [];
    next = x;
    rest = xs;
    whole = refl;
    before = record { held = tt; same = refl };
    held = are.held.0;
    is = (let e = are.same in cc);
    after = (let e = are.same in cc);
  }
  goes_on (y ∷ ys) row more [] are = absurd (let e = are.same in cc)
  goes_on (y ∷ ys) row more (x ∷ xs) are =
      let e = are.same in
      let head : y ≡ cells x = cc in
      let tail : ys ++ row ∷ more ≡ map cells xs = cc in
      let on = goes_on ys row more xs (record { held = are.held.1; same = tail }) in
      record {
        front = x ∷ on.front;
        next = on.next;
        rest = on.rest;
        whole = ap (λ l. x ∷ l) on.whole;
        before = record { held = (are.held.0, on.before.held); same = ap (λ l. y ∷ l) on.before.same ∙ ap (λ c. c ∷ map cells on.front) head };
        held = on.held;
        is = on.is;
        after = on.after;
      }

  none_left : (rest : List R) → [] ≡ map cells rest → rest ≡ []
  none_left [] e = refl
  none_left (x ∷ xs) e = absurd cc

  pub none_read : (Has : List R → Type 0) → Has [] → IsRead Is cells Has []
  none_read Has has = record {
    records = [];
    are = record { held = tt; same = refl };
    only = λ others are. none_left others are.same;
    taken = has;
  }

  -- the row is that of this record alone
  abbrev pub IsRowOf : Row → R → Type 0
  IsRowOf row r = (x : R) → Is x → row ≡ cells x → x ≡ r

  pub one_more : (Has New : List R → Type 0) (rows : List Row) (row : Row) (r : R) → Is r → row ≡ cells r → IsRowOf row r → (t : IsRead Is cells Has rows) → New (t.records ++ r ∷ []) → IsRead Is cells New (rows ++ row ∷ [])
  one_more Has New rows row r is same one t new = record {
    records = t.records ++ r ∷ [];
    are = record {
      held = all-append Is t.records (r ∷ []) t.are.held (is, tt);
      same = ap (λ l. l ++ row ∷ []) t.are.same ∙ ap (λ x. map cells t.records ++ x ∷ []) same ∙ sym (map-append cells t.records (r ∷ []));
    };
    only = λ others are.
        (let on = goes_on rows row [] others are in
        on.whole ∙ ap (λ l. l ++ on.next ∷ on.rest) (t.only on.front on.before) ∙ ap (λ x. t.records ++ x ∷ on.rest) (one on.next on.held on.is)
        ∙ ap (λ l. t.records ++ r ∷ l) (none_left on.rest on.after));
    taken = new;
  }

  -- a row that no record has makes a table unsound
  pub no_record : (AreSound : List R → Type 0) (rows : List Row) (row : Row) (more : List Row) → ((r : R) → Is r → row ≡ cells r → ⊥) → IsTable Is cells AreSound (rows ++ row ∷ more) → ⊥
  no_record AreSound rows row more never whole =
      let on = goes_on rows row more whole.records whole.are in
      never on.next on.held on.is

  -- so does one whose record the check refuses
  pub refused_record : (Has AreSound : List R → Type 0) (rows : List Row) (row : Row) (more : List Row) (r : R) → IsRowOf row r → (t : IsRead Is cells Has rows)
      → ((rest : List R) → AreSound (t.records ++ r ∷ rest) → ⊥) → IsTable Is cells AreSound (rows ++ row ∷ more) → ⊥
  refused_record Has AreSound rows row more r one t refuses whole =
      let on = goes_on rows row more whole.records whole.are in
      let this = on.whole ∙ ap (λ l. l ++ on.next ∷ on.rest) (t.only on.front on.before) ∙ ap (λ x. t.records ++ x ∷ on.rest) (one on.next on.held on.is) in
      refuses on.rest (subst AreSound this whole.sound)

  -- all records were read: the table is sound where they are
  pub all_read : (Has AreSound : List R → Type 0) (rows : List Row) (t : IsRead Is cells Has rows) → IsTable Is cells AreSound rows → AreSound t.records
  all_read Has AreSound rows t whole = subst AreSound (t.only whole.records whole.are) whole.sound
