use Rattle.std.proofs.Common.{◌≡◌, ap, map, sym, ◌∙◌}
use Rattle.std.specs.BTreeMap.{insert_entry}
use Rattle.std.specs.Ordering.{nat_cmp}
use Rattle.nk_tabtext.specs.Progress.{finished_at}
use Rattle.nk_tabtext.specs.InMemory.{filling_in}
use Rattle.nk_tabtext.specs.Values.{empty_table, has_key}
use Rattle.nk_tabtext.proofs.Putting.{put_there, put_twice}
use Rattle.nk_tabtext.proofs.filling.Filling.finish.Goals as goal

pub put_table-requires : goal.put_table-requires
put_table-requires c =
    ap (λ es. has_key es c.in-Some.switch) c.in_ok-make_place.ensures.ok ∙ put_there c.in-Some.switch (empty_table c.in-Some.switch) c.args.tables.now.entries

pub returns-clause-ok : goal.returns-clause-ok
returns-clause-ok c =
    let sw = c.in-Some.switch in
    let gs : c.from_vec.result ≡ map (λ e. e.1) c.args.self.now.groups.entries =
    c.from_vec.ensures ∙ c.listed-groups.ensures ∙ ap (λ m. map (λ e. e.1) m.entries) c.replace.ensures.value in
    let rs : c.from_vec-2.result ≡ c.args.self.now.rows.items = c.from_vec-2.ensures ∙ ap (λ v. v.items) c.replace-rows.ensures.value in
    c.put_table.ensures
    ∙ ap (λ es. insert_entry nat_cmp es sw (record { switch = sw; groups = c.from_vec.result; rows = c.from_vec-2.result })) c.in_ok-make_place.ensures.ok
    ∙ put_twice sw (empty_table sw) (record { switch = sw; groups = c.from_vec.result; rows = c.from_vec-2.result }) c.args.tables.now.entries
    ∙ ap (λ l. insert_entry nat_cmp c.args.tables.now.entries sw (record { switch = sw; groups = l; rows = c.from_vec-2.result })) gs
    ∙ ap (λ l. insert_entry nat_cmp c.args.tables.now.entries sw (record { switch = sw; groups = map (λ e. e.1) c.args.self.now.groups.entries; rows = l })) rs
    ∙ ap (λ o. finished_at o c.args.tables.now.entries (filling_in c.args.self.now)) (sym c.in-Some.is)
