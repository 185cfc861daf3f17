use Rattle.std.proofs.Common.{◌≡◌, true, false, [], get_or, arith}
use Rattle.nk_merge.proofs.Levelling.{same_before, apart_before}
use Rattle.nk_merge.proofs.distinguishing.are_alike.Goals as goal

pub returns-clause-yes : goal.returns-clause-yes
returns-clause-yes c = λ e.
    let off : c.in_ok-lv.lv.broken ≡ false = grind (arith, c.broken.ensures, e) in
    same_before c.args.st.now c.levels_of_two.new.st c.levels_of_two.new.ss c.args.states.now (get_or c.args.ss.now c.args.s []) (get_or c.args.ss.now c.args.t [])
    c.args.disjoint.now c.levels_of_two.new.disjoint c.in_ok-lv.lv.levels c.in_ok-lv.lv.broken c.levels_of_two.ensures.grows c.requires.disjoint c.in_ok-lv.ensures.disjoint
    c.requires.first_places c.requires.second_places c.in_ok-lv.ensures.ok off

pub returns-clause-no : goal.returns-clause-no
returns-clause-no c = λ e.
    let on : c.in_ok-lv.lv.broken ≡ true = grind (arith, c.broken.ensures, e) in
    apart_before c.args.st.now c.levels_of_two.new.st c.levels_of_two.new.ss c.args.states.now (get_or c.args.ss.now c.args.s []) (get_or c.args.ss.now c.args.t [])
    c.args.disjoint.now c.levels_of_two.new.disjoint c.in_ok-lv.lv.levels c.in_ok-lv.lv.broken c.levels_of_two.ensures.grows c.requires.disjoint c.in_ok-lv.ensures.disjoint
    c.requires.first_places c.requires.second_places c.in_ok-lv.ensures.ok on
