use Rattle.wasm_module.proofs.name_maps.skip_following.Goals as goal

pub returns-in-Name-clause-none : goal.returns-in-Name-clause-none
returns-in-Name-clause-none c = rw c.in-Name.is c.skip_name.ensures.none

pub returns-in-NameMap-clause-none : goal.returns-in-NameMap-clause-none
returns-in-NameMap-clause-none c = rw c.in-NameMap.is c.skip_name_map.ensures.none
