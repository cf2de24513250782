use Rattle.mrt_calls.proofs.OneAnswer.{Laws, one_certified_in, one_proxies_in, one_row_for_in, one_shape_in, one_table_in, one_verdict_in}
use Rattle.mrt_calls.proofs.calls_law.one_answer_each.Goals as goal

-- the laws of the layers below
laws : goal.After-proxy_rows_or_no_common_block → Laws
laws c = record {
  read = record {
    input = c.one_answer_comes.ensures.input;
    island = c.one_answer_comes.ensures.island;
    area = c.one_answer_comes.ensures.area;
    nodes = c.one_answer_comes.ensures.nodes;
    graph = c.one_answer_comes.ensures.graph;
    file = c.one_answer_comes.ensures.file;
  };
  rows = record {
    row = c.one_row_each.ensures.row;
    hop = c.one_row_each.ensures.hop;
    tables = record { table = c.one_table_each.ensures.one; primary = c.one_primary_each.ensures };
    proxies = c.one_list_of_proxy_rows.ensures;
    related = c.proxy_rows_or_no_common_block.ensures.never_both;
  };
  rules = record { never_both = c.accepted_or_one_first_fault.ensures.never_both; one = c.accepted_or_one_first_fault.ensures.one };
  certs = record { one = c.one_spelling.ensures.one; faultless = c.one_spelling.ensures.faultless };
}

pub returns-clause-shape : goal.returns-clause-shape
returns-clause-shape c = one_shape_in (laws c)

pub returns-clause-certificate : goal.returns-clause-certificate
returns-clause-certificate c = one_certified_in (laws c)

pub returns-clause-verdict : goal.returns-clause-verdict
returns-clause-verdict c = one_verdict_in (laws c)

pub returns-clause-table : goal.returns-clause-table
returns-clause-table c = one_table_in (laws c)

pub returns-clause-row : goal.returns-clause-row
returns-clause-row c = one_row_for_in (laws c)

pub returns-clause-proxies : goal.returns-clause-proxies
returns-clause-proxies c = one_proxies_in (laws c)
