mod FewRequests
